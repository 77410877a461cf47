use Rattle.server_subs.proofs.Places.{apart_replaced}
use Rattle.server_subs.proofs.subs.Subs.add.Goals as goal

pub invariant_of-self : goal.invariant_of-self
invariant_of-self c = apart_replaced c.replace.result _ _ _ c.replace.ensures.ok c.replace.ensures.err c.self.invariant
