-- When something is due next.
use Rattle.std.specs.Prelude.{ℕ, ◌+◌, ◌-◌, ◌^◌, min, max, nat_le, List, [], ◌∷◌, Option, Some, None, if◌then◌else◌}
use Rattle.sessions.specs.Table.{due_of}
use Rattle.subscription.specs.State.{SubState}
use Rattle.server_rules.specs.State.{ServerState}
use Rattle.server_rules.specs.Said.{Did, nothing}
use Rattle.server_rules.specs.Timer.{moment}

abbrev pub due_or_last : Option ℕ → ℕ
due_or_last None = 2 ^ 64 - 1
due_or_last (Some due) = due

-- the earliest cycle; the last age where none is before it
abbrev pub subs_due : List SubState → ℕ
subs_due [] = 2 ^ 64 - 1
subs_due (sub ∷ subs) = min (due_or_last sub.due) (subs_due subs)

abbrev pub next_due : ServerState → ℕ
next_due s = min (due_of s.sessions.sessions) (subs_due s.subs)

-- the next age at which something may be due
abbrev pub next_age : ServerState → ℕ
next_age s = max (next_due s) (s.age + 1)

-- time goes by up to that age, or up to an end before it
abbrev pub advanced : ℕ → ServerState → Did
advanced end s =
    if nat_le (next_age s) end then moment (record s { age = next_age s }) else nothing (record s { age = end })
