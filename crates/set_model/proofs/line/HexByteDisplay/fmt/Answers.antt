use Rattle.set_model.proofs.Text.{padded-zeros}
use Rattle.set_model.proofs.line.HexByteDisplay.fmt.Goals as goal

pub returns-clause-writes : goal.returns-clause-writes
returns-clause-writes g c = rw (c.laid_out.ensures, c.in_radix.ensures, padded-zeros) at c.write.ensures.writes
