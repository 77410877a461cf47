use Rattle.sessions.specs.Calls.{Close}
use Rattle.sessions.proofs.StaysSound.{sound_among, state_of}
use Rattle.sessions.proofs.Steps.{sound_step}
use Rattle.sessions.proofs.table.Sessions.close.Goals as goal

pub invariant_of-self : goal.invariant_of-self
invariant_of-self c =
    sound_among (state_of c.self.inside) _ _ _ _ c.drop_session.ensures c.deref.ensures.value c.keep_owners_among.ensures
    (sound_step (Close c.args.session) (state_of c.self.inside) tt c.self.invariant)
