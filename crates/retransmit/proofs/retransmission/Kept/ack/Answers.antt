use Rattle.std.proofs.Common.{◌∙◌, ap}
use Rattle.retransmit.proofs.Available.{gone}
use Rattle.retransmit.specs.Kept.{message_of}
use Rattle.retransmit.proofs.retransmission.Kept.ack.Goals as goal

pub returns-clause-gone : goal.returns-clause-gone
returns-clause-gone g c = ap (λ ring. message_of c.args.number ring.items) c.take_out.ensures.out ∙ gone c.args.number _
