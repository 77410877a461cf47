use Rattle.std.proofs.Common.{◌∙◌, refl, sym, ap}
use Rattle.subscription.specs.State.{SubState}
use Rattle.subscription.specs.Calls.{acknowledged}
use Rattle.std.specs.Prelude.{is_some}
use Rattle.retransmit.specs.Kept.{message_of}
use Rattle.server_rules.specs.Publishing.{kept_of}
use Rattle.server_subs.proofs.Places.{apart_at, at_place, nowhere}
use Rattle.server_subs.proofs.subs.Subs.ack.Goals as goal

pub returns-in-Some-clause-acknowledged : goal.returns-in-Some-clause-acknowledged
returns-in-Some-clause-acknowledged c =
    let h = at_place _ _ _ _ _ _ c.place_of.ensures.place c.deref.ensures.value c.in-Some.is c.index_mut.ensures.value in
    rw (← c.self.view_is, h.changes (acknowledged c.args.number) c.self.invariant, ← c.ack_one.ensures.acknowledged) refl

pub returns-in-Some-clause-known : goal.returns-in-Some-clause-known
returns-in-Some-clause-known c =
    let h = at_place _ _ _ _ _ _ c.place_of.ensures.place c.deref.ensures.value c.in-Some.is c.index_mut.ensures.value in
    rw (← c.self.view_is) (c.ack_one.ensures.known ∙ sym (ap (λ found. is_some (message_of c.args.number (kept_of found))) h.found))

pub returns-in-None-clause-acknowledged : goal.returns-in-None-clause-acknowledged
returns-in-None-clause-acknowledged c =
    let h = nowhere _ _ _ _ c.place_of.ensures.place c.deref.ensures.value c.in-None.is in
    rw (← c.self.view_is, h.changes (acknowledged c.args.number)) refl

pub returns-in-None-clause-known : goal.returns-in-None-clause-known
returns-in-None-clause-known c =
    let h = nowhere _ _ _ _ c.place_of.ensures.place c.deref.ensures.value c.in-None.is in
    rw (← c.self.view_is, h.found) refl

pub invariant_of-self : goal.invariant_of-self
invariant_of-self c =
    let h = at_place _ _ _ _ _ _ c.place_of.ensures.place c.deref.ensures.value c.in-Some.is c.index_mut.ensures.value in
    apart_at _ _ _ _ _ h (ap (λ (s : SubState). s.spec.id) c.ack_one.ensures.acknowledged) c.self.invariant
