use Rattle.std.proofs.Common.{◌∙◌, Some, refl, sym, ap}
use Rattle.subscription.specs.State.{SubState}
use Rattle.subscription.specs.Cycle.{cycled}
use Rattle.server_subs.specs.Outgoing.{row_at}
use Rattle.server_subs.proofs.Places.{cycled_id}
use Rattle.server_subs.proofs.Places.{apart_at, at_place, nowhere}
use Rattle.server_subs.proofs.subs.Subs.timer.Goals as goal

pub returns-in-Some-clause-cycled : goal.returns-in-Some-clause-cycled
returns-in-Some-clause-cycled c =
    let h = at_place _ _ _ _ _ _ c.place_of.ensures.place c.deref.ensures.value c.in-Some.is c.index_mut.ensures.value in
    rw (← c.self.view_is, h.changes (cycled c.args.queued) c.self.invariant, ← c.timer.ensures.cycled) refl

pub returns-in-Some-clause-row : goal.returns-in-Some-clause-row
returns-in-Some-clause-row c =
    let h = at_place _ _ _ _ _ _ c.place_of.ensures.place c.deref.ensures.value c.in-Some.is c.index_mut.ensures.value in
    rw (← c.self.view_is) (ap Some c.timer.ensures.row ∙ sym (ap (row_at c.args.queued) h.found))

pub returns-in-None-clause-cycled : goal.returns-in-None-clause-cycled
returns-in-None-clause-cycled c =
    let h = nowhere _ _ _ _ c.place_of.ensures.place c.deref.ensures.value c.in-None.is in
    rw (← c.self.view_is, h.changes (cycled c.args.queued)) refl

pub returns-in-None-clause-row : goal.returns-in-None-clause-row
returns-in-None-clause-row c =
    let h = nowhere _ _ _ _ c.place_of.ensures.place c.deref.ensures.value c.in-None.is in
    rw (← c.self.view_is, h.found) refl

pub invariant_of-self : goal.invariant_of-self
invariant_of-self c =
    let h = at_place _ _ _ _ _ _ c.place_of.ensures.place c.deref.ensures.value c.in-Some.is c.index_mut.ensures.value in
    apart_at _ _ _ _ _ h (ap (λ (s : SubState). s.spec.id) c.timer.ensures.cycled ∙ cycled_id c.args.queued _) c.self.invariant
