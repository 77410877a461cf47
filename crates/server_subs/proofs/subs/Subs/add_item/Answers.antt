use Rattle.std.proofs.Common.{◌∙◌, refl, sym, ap}
use Rattle.std.specs.Prelude.{IfSome}
use Rattle.std.proofs.lemmas.Result.{on_ok_weaker}
use Rattle.std.proofs.Common.{subst}
use Rattle.subscription.specs.Calls.{added}
use Rattle.server_rules.specs.State.{sub_at}
use Rattle.server_subs.specs.Access.{HasRoom}
use Rattle.server_subs.proofs.Places.{apart_at, at_place, nowhere}
use Rattle.server_subs.proofs.subs.Subs.add_item.Goals as goal

pub add_to-requires-clause-room : goal.add_to-requires-clause-room
add_to-requires-clause-room c =
    let h = at_place _ _ _ _ _ _ c.place_of.ensures.place c.deref.ensures.value c.in-Some.is c.index_mut.ensures.value in
    subst (λ found. IfSome found HasRoom) (sym (ap (sub_at c.args.id) c.self.view_is) ∙ h.found) c.requires.room

pub returns-in-Some : goal.returns-in-Some
returns-in-Some c =
    let h = at_place _ _ _ _ _ _ c.place_of.ensures.place c.deref.ensures.value c.in-Some.is c.index_mut.ensures.value in
    rw (← c.self.view_is, h.changes (added c.args.spec c.args.current) c.self.invariant) (on_ok_weaker c.add_to.result (λ is. rw is refl) c.add_to.ensures.added)

pub returns-in-None : goal.returns-in-None
returns-in-None c =
    let h = nowhere _ _ _ _ c.place_of.ensures.place c.deref.ensures.value c.in-None.is in
    rw (← c.self.view_is, h.changes (added c.args.spec c.args.current)) refl

pub invariant_of-self : goal.invariant_of-self
invariant_of-self c =
    let h = at_place _ _ _ _ _ _ c.place_of.ensures.place c.deref.ensures.value c.in-Some.is c.index_mut.ensures.value in
    apart_at _ _ _ _ _ h c.add_to.ensures.id c.self.invariant
