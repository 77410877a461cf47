use Rattle.std.proofs.Common.{subst, sym}
use Rattle.server_subs.specs.Apart.{AreApart}
use Rattle.server_subs.proofs.Places.{apart_kept}
use Rattle.server_subs.proofs.subs.Subs.remove.Goals as goal

pub invariant_of-self : goal.invariant_of-self
invariant_of-self c = subst AreApart (sym c.drop_sub.ensures) (apart_kept _ _ c.self.invariant)
