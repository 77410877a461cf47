use Rattle.std.proofs.Common.{◌∙◌, refl, sym, ap}
use Rattle.subscription.specs.State.{SubState}
use Rattle.subscription.specs.Calls.{removed}
use Rattle.server_subs.specs.Access.{has_item_of}
use Rattle.server_subs.proofs.Places.{apart_at, at_place, nowhere}
use Rattle.server_subs.proofs.subs.Subs.remove_item.Goals as goal

pub returns-in-Some-clause-removed : goal.returns-in-Some-clause-removed
returns-in-Some-clause-removed c =
    let h = at_place _ _ _ _ _ _ c.place_of.ensures.place c.deref.ensures.value c.in-Some.is c.index_mut.ensures.value in
    rw (← c.self.view_is, h.changes (removed c.args.item) c.self.invariant, ← c.remove.ensures.removed) refl

pub returns-in-Some-clause-there : goal.returns-in-Some-clause-there
returns-in-Some-clause-there c =
    let h = at_place _ _ _ _ _ _ c.place_of.ensures.place c.deref.ensures.value c.in-Some.is c.index_mut.ensures.value in
    rw (← c.self.view_is) (c.remove.ensures.there ∙ sym (ap (has_item_of c.args.item) h.found))

pub returns-in-None-clause-removed : goal.returns-in-None-clause-removed
returns-in-None-clause-removed c =
    let h = nowhere _ _ _ _ c.place_of.ensures.place c.deref.ensures.value c.in-None.is in
    rw (← c.self.view_is, h.changes (removed c.args.item)) refl

pub returns-in-None-clause-there : goal.returns-in-None-clause-there
returns-in-None-clause-there c =
    let h = nowhere _ _ _ _ c.place_of.ensures.place c.deref.ensures.value c.in-None.is in
    rw (← c.self.view_is, h.found) refl

pub invariant_of-self : goal.invariant_of-self
invariant_of-self c =
    let h = at_place _ _ _ _ _ _ c.place_of.ensures.place c.deref.ensures.value c.in-Some.is c.index_mut.ensures.value in
    apart_at _ _ _ _ _ h (ap (λ (s : SubState). s.spec.id) c.remove.ensures.removed) c.self.invariant
