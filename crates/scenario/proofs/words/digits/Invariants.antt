use Rattle.std.proofs.Common.{◌≡◌}
use Rattle.std.specs.Prelude.{drop}
use Rattle.scenario.specs.Words.{capped, digits_from, read_by}
use Rattle.scenario.proofs.WordLemmas.{capped_digits}
use Rattle.scenario.proofs.words.digits.Given as goal

-- the number so far and the digits that are left give what all digits give
abbrev pub invariant-loop-byte : goal.invariant-loop-byte
invariant-loop-byte l = read_by capped (digits_from 0 l.word) ≡ capped_digits l.number (drop l.byte-index l.word)
