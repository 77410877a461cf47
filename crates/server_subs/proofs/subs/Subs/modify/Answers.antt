use Rattle.std.proofs.Common.{refl, ap}
use Rattle.subscription.specs.State.{SubState}
use Rattle.subscription.specs.Calls.{modified}
use Rattle.server_subs.proofs.Places.{apart_at, at_place, nowhere}
use Rattle.server_subs.proofs.subs.Subs.modify.Goals as goal

pub returns-in-Some : goal.returns-in-Some
returns-in-Some c =
    let h = at_place _ _ _ _ _ _ c.place_of.ensures.place c.deref.ensures.value c.in-Some.is c.index_mut.ensures.value in
    rw (← c.self.view_is, h.changes (modified c.args.spec c.args.now) c.self.invariant, ← c.modify.ensures) refl

pub returns-in-None : goal.returns-in-None
returns-in-None c =
    let h = nowhere _ _ _ _ c.place_of.ensures.place c.deref.ensures.value c.in-None.is in
    rw (← c.self.view_is, h.changes (modified c.args.spec c.args.now)) refl

pub invariant_of-self : goal.invariant_of-self
invariant_of-self c =
    let h = at_place _ _ _ _ _ _ c.place_of.ensures.place c.deref.ensures.value c.in-Some.is c.index_mut.ensures.value in
    apart_at _ _ _ _ _ h (ap (λ (s : SubState). s.spec.id) c.modify.ensures) c.self.invariant
