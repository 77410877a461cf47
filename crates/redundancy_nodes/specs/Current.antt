-- The changes that are the items' current values.
use Rattle.std.specs.Prelude.{◌==◌, List, [], ◌∷◌, ◌++◌, map, is_some, if◌then◌else◌}
use Rattle.set_model.specs.declared.source.Change.{Change}
use Rattle.set_model.specs.Source.{last_of}

-- a change in the place of one of its item
abbrev pub renewed : Change → Change → Change
renewed change known = if known.item == change.item then change else known

-- with an item's newest change in the place of the one before, or behind all where the item had none
abbrev pub with_newest : Change → List Change → List Change
with_newest change changes =
    if is_some (last_of change.item changes) then map (renewed change) changes else changes ++ change ∷ []
