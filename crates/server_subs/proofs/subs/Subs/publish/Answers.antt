use Rattle.std.proofs.Common.{Some, refl, ap}
use Rattle.std.specs.Int.{w64}
use Rattle.std.proofs.Math.Facts.{to_z-of_z}
use Rattle.subscription.specs.Calls.{published}
use Rattle.server_subs.proofs.Places.{apart_at, at_place, nowhere}
use Rattle.server_subs.proofs.subs.Subs.publish.Goals as goal

pub returns-in_ok-publish_next-in-Some-clause-out : goal.returns-in_ok-publish_next-in-Some-clause-out
returns-in_ok-publish_next-in-Some-clause-out c =
    let h = at_place _ _ _ _ _ _ c.place_of.ensures.place c.deref.ensures.value c.in-Some.is c.index_mut.ensures.value in
    let out = rw (to_z-of_z {w = w64} {z = c.args.now} c.ranges.now) at c.in_ok-publish_next-in-Some.ensures.out in
    rw (← c.self.view_is, h.found) (ap Some out)

pub returns-in_ok-publish_next-in-Some-clause-published : goal.returns-in_ok-publish_next-in-Some-clause-published
returns-in_ok-publish_next-in-Some-clause-published c =
    let h = at_place _ _ _ _ _ _ c.place_of.ensures.place c.deref.ensures.value c.in-Some.is c.index_mut.ensures.value in
    let is = rw (to_z-of_z {w = w64} {z = c.args.now} c.ranges.now) at c.in_ok-publish_next-in-Some.ensures.published in
    rw (← c.self.view_is, h.changes (published c.args.now) c.self.invariant, ← is) refl

pub invariant_of-self-in-Some : goal.invariant_of-self-in-Some
invariant_of-self-in-Some c =
    let h = at_place _ _ _ _ _ _ c.place_of.ensures.place c.deref.ensures.value c.in-Some.is c.index_mut.ensures.value in
    apart_at _ _ _ _ _ h c.publish_next.ensures.id c.self.invariant

pub returns-in-None-clause-out : goal.returns-in-None-clause-out
returns-in-None-clause-out c =
    let h = nowhere _ _ _ _ c.place_of.ensures.place c.deref.ensures.value c.in-None.is in
    rw (← c.self.view_is, h.found) refl

pub returns-in-None-clause-published : goal.returns-in-None-clause-published
returns-in-None-clause-published c =
    let h = nowhere _ _ _ _ c.place_of.ensures.place c.deref.ensures.value c.in-None.is in
    rw (← c.self.view_is, h.changes (published c.args.now)) refl

pub invariant_of-self : goal.invariant_of-self
invariant_of-self c =
    let h = at_place _ _ _ _ _ _ c.place_of.ensures.place c.deref.ensures.value c.in-Some.is c.index_mut.ensures.value in
    apart_at _ _ _ _ _ h c.publish_next.ensures.id c.self.invariant
