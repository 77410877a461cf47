use Rattle.std.proofs.Common.{refl, ap}
use Rattle.subscription.specs.State.{SubState}
use Rattle.subscription.specs.Calls.{with_mode_of}
use Rattle.server_subs.proofs.Places.{apart_at, at_place, nowhere, on_ok}
use Rattle.server_subs.proofs.subs.Subs.set_item_mode.Goals as goal

pub returns-in-Some-clause-set : goal.returns-in-Some-clause-set
returns-in-Some-clause-set c =
    let h = at_place _ _ _ _ _ _ c.place_of.ensures.place c.deref.ensures.value c.in-Some.is c.index_mut.ensures.value in
    rw (← c.self.view_is, h.changes (with_mode_of c.args.item c.args.mode c.args.current) c.self.invariant, ← c.set_mode_in.ensures.set) (on_ok c.set_mode_in.result _ refl)

pub returns-in-Some-clause-there : goal.returns-in-Some-clause-there
returns-in-Some-clause-there c =
    let h = at_place _ _ _ _ _ _ c.place_of.ensures.place c.deref.ensures.value c.in-Some.is c.index_mut.ensures.value in
    rw (← c.self.view_is, h.found) c.set_mode_in.ensures.there

pub returns-in-None-clause-set : goal.returns-in-None-clause-set
returns-in-None-clause-set c =
    let h = nowhere _ _ _ _ c.place_of.ensures.place c.deref.ensures.value c.in-None.is in
    rw (← c.self.view_is, h.changes (with_mode_of c.args.item c.args.mode c.args.current)) refl

pub returns-in-None-clause-there : goal.returns-in-None-clause-there
returns-in-None-clause-there c =
    let h = nowhere _ _ _ _ c.place_of.ensures.place c.deref.ensures.value c.in-None.is in
    rw (← c.self.view_is, h.found) refl

pub invariant_of-self : goal.invariant_of-self
invariant_of-self c =
    let h = at_place _ _ _ _ _ _ c.place_of.ensures.place c.deref.ensures.value c.in-Some.is c.index_mut.ensures.value in
    apart_at _ _ _ _ _ h (ap (λ (s : SubState). s.spec.id) c.set_mode_in.ensures.set) c.self.invariant
