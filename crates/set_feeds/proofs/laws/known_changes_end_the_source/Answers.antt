use Rattle.std.proofs.Common.{length, ◌+◌}
use Rattle.set_model.specs.Source.{of_item}
use Rattle.set_feeds.specs.Known.{known_of}
use Rattle.set_feeds.proofs.Known.{are_linked, are_neighbours, get_part, known_part}
use Rattle.set_feeds.proofs.laws.known_changes_end_the_source.Goals as goal

pub returns-clause-neighbours : goal.returns-clause-neighbours
returns-clause-neighbours c = λ items source first count item.
    are_neighbours item source (known_of items source first count) (known_part items source first count item)

pub returns-clause-linked : goal.returns-clause-linked
returns-clause-linked c = λ items source first count item size entries.
    are_linked size (of_item item (known_of items source first count)) (of_item item source) entries (known_part items source first count item)

pub returns-clause-found : goal.returns-clause-found
returns-clause-found c = λ items source first count item place change is.
    let x = known_part items source first count item in
    (length x.front + place, get_part (of_item item (known_of items source first count)) (of_item item source) x place change is)
