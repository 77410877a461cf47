use Rattle.std.proofs.Common.{refl, subst, sym}
use Rattle.sessions.specs.State.{SessionsState}
use Rattle.std.proofs.lemmas.Result.{on_ok_weaker}
use Rattle.sessions.proofs.Firsts.{first_of, none_of}
use Rattle.std.specs.Prelude.{IsSome}
use Rattle.sessions.specs.Table.{conn_of, session_at}
use Rattle.sessions.specs.Calls.{Park}
use Rattle.sessions.specs.Session.{with_parked}
use Rattle.sessions.proofs.StaysSound.{sound_tried, state_of}
use Rattle.sessions.proofs.Steps.{sound_step}
use Rattle.sessions.proofs.table.Sessions.park.Goals as goal

pub returns-in-Some-clause-after : goal.returns-in-Some-clause-after
returns-in-Some-clause-after c =
    let h = first_of _ _ _ _ _ _ c.place_at.ensures.place c.deref.ensures.value c.in-Some.is c.index_mut.ensures.value in
    rw (← c.self.view_is, h.changes) (on_ok_weaker c.park.result (λ parked. rw parked refl) c.park.ensures.queued)

pub returns-in-Some-clause-out : goal.returns-in-Some-clause-out
returns-in-Some-clause-out c =
    let h = first_of _ _ _ _ _ _ c.place_at.ensures.place c.deref.ensures.value c.in-Some.is c.index_mut.ensures.value in
    rw (← c.self.view_is, h.found) c.park.ensures.out

pub returns-in-None-clause-after : goal.returns-in-None-clause-after
returns-in-None-clause-after c =
    let h = none_of _ _ _ _ c.place_at.ensures.place c.deref.ensures.value c.in-None.is in
    rw (← c.self.view_is, h.changes) refl

pub returns-in-None-clause-out : goal.returns-in-None-clause-out
returns-in-None-clause-out c =
    let h = none_of _ _ _ _ c.place_at.ensures.place c.deref.ensures.value c.in-None.is in
    rw (← c.self.view_is, h.found) refl

pub invariant_of-self : goal.invariant_of-self
invariant_of-self c =
    let h = first_of _ _ _ _ _ _ c.place_at.ensures.place c.deref.ensures.value c.in-Some.is c.index_mut.ensures.value in
    let bound : IsSome (conn_of (session_at c.args.session c.self.inside.sessions.items)) =
    subst (λ (state : SessionsState). IsSome (conn_of (session_at c.args.session state.sessions))) (sym c.self.view_is) c.requires in
    sound_tried (state_of c.self.inside) _ (with_parked c.args.publish) _ _ _ c.park.result h c.park.ensures.queued c.park.ensures.unchanged
    c.self.invariant (sound_step (Park c.args.session c.args.publish) (state_of c.self.inside) bound c.self.invariant)
