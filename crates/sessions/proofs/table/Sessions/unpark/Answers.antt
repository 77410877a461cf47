use Rattle.std.proofs.Common.{◌∙◌, sym, ap, refl}
use Rattle.sessions.specs.Table.{oldest_of}
use Rattle.sessions.proofs.Firsts.{first_of, none_of}
use Rattle.sessions.specs.Calls.{Unpark}
use Rattle.sessions.specs.Session.{without_oldest}
use Rattle.sessions.proofs.StaysSound.{sound_at, state_of}
use Rattle.sessions.proofs.Steps.{sound_step}
use Rattle.sessions.proofs.table.Sessions.unpark.Goals as goal

pub returns-in-Some-clause-oldest : goal.returns-in-Some-clause-oldest
returns-in-Some-clause-oldest c =
    let h = first_of _ _ _ _ _ _ c.place_at.ensures.place c.deref.ensures.value c.in-Some.is c.index_mut.ensures.value in
    rw (← c.self.view_is) (c.unpark.ensures.oldest ∙ sym (ap oldest_of h.found))

pub returns-in-Some-clause-after : goal.returns-in-Some-clause-after
returns-in-Some-clause-after c =
    let h = first_of _ _ _ _ _ _ c.place_at.ensures.place c.deref.ensures.value c.in-Some.is c.index_mut.ensures.value in
    rw (← c.self.view_is, h.changes, ← c.unpark.ensures.queued) refl

pub returns-in-None-clause-oldest : goal.returns-in-None-clause-oldest
returns-in-None-clause-oldest c =
    let h = none_of _ _ _ _ c.place_at.ensures.place c.deref.ensures.value c.in-None.is in
    rw (← c.self.view_is, h.found) refl

pub returns-in-None-clause-after : goal.returns-in-None-clause-after
returns-in-None-clause-after c =
    let h = none_of _ _ _ _ c.place_at.ensures.place c.deref.ensures.value c.in-None.is in
    rw (← c.self.view_is, h.changes) refl

pub invariant_of-self : goal.invariant_of-self
invariant_of-self c =
    let h = first_of _ _ _ _ _ _ c.place_at.ensures.place c.deref.ensures.value c.in-Some.is c.index_mut.ensures.value in
    sound_at (state_of c.self.inside) _ without_oldest _ _ _ h c.unpark.ensures.queued
    (sound_step (Unpark c.args.session) (state_of c.self.inside) tt c.self.invariant)
