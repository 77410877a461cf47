use Rattle.std.proofs.Common.{sym}
use Rattle.scenario.proofs.WordLemmas.{capped_digits_is}
use Rattle.scenario.proofs.words.digits.Goals as goal

pub loop-byte-init : goal.loop-byte-init
loop-byte-init c = sym (capped_digits_is 0 c.args.word.now)
