-- What a listener heard: how many lines of each kind, how many it has to spare, and, where it tells that, which.
use Rattle.std.specs.Prelude.{◌≡◌, ℕ, ◌+◌, ◌-◌, ◌^◌, ◌≤◌, max, List, [], ◌∷◌, ◌++◌, Option, None, Some}
use Rattle.set_model.specs.declared.line.LogLine.{LogLine}
use Rattle.set_model.specs.declared.line.LogLine.TheVariants as line
use Rattle.fanout.specs.declared.hearing.Tally.{Tally}

-- a listener as its calls tell it. It stops at no line while it has lines to spare. Some listeners tell every line
-- that they were told, the first one first
pub record Hearing : Type 0 where
  pub tally : Tally
  pub spare : ℕ
  pub lines : Option (List LogLine)

-- a data line counts as a change, a gap line as a gap, and no other line counts
abbrev pub tally_with : LogLine → Tally → Tally
tally_with (line.Delivered item time pico value status) tally = record tally { changes = tally.changes + 1 }
tally_with (line.Gap item cause) tally = record tally { gaps = tally.gaps + 1 }
tally_with (line.Switch from to) tally = tally
tally_with (line.Ready server) tally = tally
tally_with (line.Lost server) tally = tally
tally_with (line.Unsupported server) tally = tally
tally_with (line.Heard listener changes gaps) tally = tally
tally_with (line.Done changes) tally = tally

-- the line comes last, where the lines are told
abbrev pub lines_with : LogLine → Option (List LogLine) → Option (List LogLine)
lines_with told None = None
lines_with told (Some lines) = Some (lines ++ told ∷ [])

-- it was told the line
pub record Hears (told : LogLine) (old new : Hearing) : Type 0 where
  pub tally : new.tally ≡ tally_with told old.tally
  pub lines : new.lines ≡ lines_with told old.lines
  pub spare : old.spare ≤ new.spare + 1

-- it was not, and has no lines to spare
pub record Stops (old new : Hearing) : Type 0 where
  pub tally : new.tally ≡ old.tally
  pub lines : new.lines ≡ old.lines
  pub spare : old.spare ≡ 0

-- what one that only counts has to spare: what its greater count lacks to the last number of 64 bits
abbrev pub counted : Tally → Hearing
counted tally = record { tally = tally; spare = 2 ^ 64 - 1 - max tally.changes tally.gaps; lines = None }

-- before any line
abbrev pub no_tally : Tally
no_tally = record { changes = 0; gaps = 0 }

-- what one is that takes so many lines more
abbrev pub limited : Tally → ℕ → Hearing
limited tally spare = record { tally = tally; spare = spare; lines = None }
