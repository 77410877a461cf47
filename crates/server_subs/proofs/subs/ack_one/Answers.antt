use Rattle.server_subs.proofs.Acks.{gives}
use Rattle.server_subs.proofs.subs.ack_one.Goals as goal

pub returns-clause-acknowledged : goal.returns-clause-acknowledged
returns-clause-acknowledged c = gives _ _ _ _ c.ack.ensures.acknowledged c.ack.ensures.unchanged c.ack.ensures.unknown
