use Rattle.std.proofs.Common.{arith}
use Rattle.std.proofs.lemmas.Grind.{common_steps}
use Rattle.set_model.proofs.Text.{padded-zeros}
use Rattle.uaset.proofs.status.CodeTextDisplay.fmt.Goals as goal

pub returns-clause-writes : goal.returns-clause-writes
returns-clause-writes g c = λ p ok.
    let h = rw (c.laid_out.ensures, c.in_radix.ensures, padded-zeros) at c.write.ensures.writes in
    let shown = h p ok in
    grind (arith, common_steps)
