use Rattle.std.proofs.Common.{refl}
use Rattle.subscription.specs.Calls.{fed}
use Rattle.server_subs.proofs.Places.{apart_mapped}
use Rattle.server_subs.proofs.subs.Subs.feed.Goals as goal

pub invariant_of-self : goal.invariant_of-self
invariant_of-self c = apart_mapped (fed c.args.change) _ _ (λ sub. refl) c.feed_all.ensures c.self.invariant
