-- A fanout as contracts see it, by what each listener heard.
use Rattle.std.specs.Prelude.{ℕ, ◌+◌, ◌==◌, List, [], ◌∷◌, Option, None, Some, if◌then◌else◌, map}
use Rattle.fanout.specs.Hearing.{Hearing}
use Rattle.fanout.specs.State.{Attached, FanoutState}
use Rattle.fanout.specs.declared.attached.Entry.{Entry}
use Rattle.fanout.specs.declared.attached.Fanout.{Fanout}

-- one entry
abbrev pub one_shown : {Kinds : Type 0} {Held : Kinds → Type 0} → (Entry Kinds Held → Hearing) → Entry Kinds Held → Attached
one_shown heard entry = record { id = entry.id; item = entry.item; hearing = heard entry }

-- all entries, and the id that was given last
abbrev pub shown : {Kinds : Type 0} {Held : Kinds → Type 0} → (Entry Kinds Held → Hearing) → Fanout Kinds Held → FanoutState
shown heard fanout = record { attached = map (one_shown heard) fanout.entries.items; last = fanout.last }

-- the place of the first entry of an id, where the list's first one has a place that is given
abbrev pub place_from : {Kinds : Type 0} {Held : Kinds → Type 0} → ℕ → ℕ → List (Entry Kinds Held) → Option ℕ
place_from place id [] = None
place_from place id (entry ∷ entries) = if entry.id == id then Some place else place_from (place + 1) id entries
