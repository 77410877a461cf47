use Rattle.std.proofs.Common.{◌∙◌, sym, ap, refl}
use Rattle.ua_base.specs.Status.{bad_session_id_invalid}
use Rattle.sessions.specs.Session as one
use Rattle.sessions.specs.Table.{answer_of}
use Rattle.sessions.proofs.Firsts.{first_of, none_of}
use Rattle.sessions.specs.Calls.{Check}
use Rattle.sessions.proofs.StaysSound.{sound_at, state_of}
use Rattle.sessions.proofs.Steps.{sound_step}
use Rattle.sessions.proofs.table.Sessions.check.Goals as goal

pub returns-in-Some-clause-answer : goal.returns-in-Some-clause-answer
returns-in-Some-clause-answer c =
    let h = first_of _ _ _ _ _ _ c.place_of.ensures.place c.deref.ensures.value c.in-Some.is c.index_mut.ensures.value in
    rw (← c.self.view_is) (c.check.ensures.answer ∙ sym (ap (answer_of bad_session_id_invalid (one.check_answer c.args.conn)) h.found))

pub returns-in-Some-clause-after : goal.returns-in-Some-clause-after
returns-in-Some-clause-after c =
    let h = first_of _ _ _ _ _ _ c.place_of.ensures.place c.deref.ensures.value c.in-Some.is c.index_mut.ensures.value in
    rw (← c.self.view_is, h.changes, ← c.check.ensures.after) refl

pub returns-in-None-clause-answer : goal.returns-in-None-clause-answer
returns-in-None-clause-answer c =
    let h = none_of _ _ _ _ c.place_of.ensures.place c.deref.ensures.value c.in-None.is in
    rw (← c.self.view_is, h.found) refl

pub returns-in-None-clause-after : goal.returns-in-None-clause-after
returns-in-None-clause-after c =
    let h = none_of _ _ _ _ c.place_of.ensures.place c.deref.ensures.value c.in-None.is in
    rw (← c.self.view_is, h.changes) refl

pub invariant_of-self : goal.invariant_of-self
invariant_of-self c =
    let h = first_of _ _ _ _ _ _ c.place_of.ensures.place c.deref.ensures.value c.in-Some.is c.index_mut.ensures.value in
    sound_at (state_of c.self.inside) _ (one.requested c.args.conn c.args.now) _ _ _ h c.check.ensures.after
    (sound_step (Check c.args.token.now c.args.conn c.args.now) (state_of c.self.inside) tt c.self.invariant)
