use Rattle.std.proofs.Common.{arith}
use Rattle.std.proofs.lemmas.Grind.{common_steps}
use Rattle.set_model.proofs.Text.{padded-zeros}
use Rattle.set_model.proofs.line.StatusSuffixDisplay.fmt.Goals as goal

pub returns-else-shown-eq0-clause-writes : goal.returns-else-shown-eq0-clause-writes
returns-else-shown-eq0-clause-writes g c = λ p ok.
    let h = rw (c.laid_out.ensures, c.in_radix.ensures, padded-zeros) at c.write.ensures.writes in
    let shown = h p ok in
    grind (arith, common_steps)
