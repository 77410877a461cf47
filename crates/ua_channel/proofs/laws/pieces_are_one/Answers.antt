use Rattle.ua_channel.proofs.Cutting.{cut_node}
use Rattle.ua_channel.proofs.laws.pieces_are_one.Goals as goal

pub returns : goal.returns
returns c = λ start conn first second n deafens. cut_node (c.C.Core.ears conn) (c.C.Core.answer conn) first second n deafens
