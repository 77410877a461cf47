-- What a count of faults tells, and which calls of a form in memory are to fail.
use Rattle.std.specs.Prelude.{◌==◌, ℕ, ◌+◌, ◌-◌, ◌^◌, ◌≤◌, min, List, Bool, if◌then◌else◌}
use Rattle.std.specs.List.{list_any}

-- the count rose, or stands at the last value of its type
abbrev pub Rose : ℕ → ℕ → Type 0
Rose before now = min (before + 1) (2 ^ 64 - 1) ≤ now

-- one more, up to the last value of the type
abbrev pub next_count : ℕ → ℕ
next_count n = min (n + 1) (2 ^ 64 - 1)

-- the calls so far, the numbers of those that are to fail, and how many did
pub record Counted : Type 0 where
  pub calls : ℕ
  pub failing : List ℕ
  pub faults : ℕ

-- the next call is to fail
abbrev pub is_failing : Counted → Bool
is_failing c = list_any (λ number. number == next_count c.calls) c.failing

-- the next call was made
abbrev pub counted : Counted → Counted
counted c = record {
  calls = next_count c.calls;
  failing = c.failing;
  faults = if is_failing c then next_count c.faults else c.faults;
}

-- bytes in memory, to be taken or written, with their calls and the most bytes of one
pub record InMemory : Type 0 where
  pub bytes : List ℕ
  pub most : ℕ
  pub calls : Counted
