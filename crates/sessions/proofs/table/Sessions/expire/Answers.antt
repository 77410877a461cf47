use Rattle.sessions.specs.Calls.{Expire}
use Rattle.sessions.proofs.StaysSound.{sound_among, state_of}
use Rattle.sessions.proofs.Steps.{sound_step}
use Rattle.sessions.proofs.table.Sessions.expire.Goals as goal

pub invariant_of-self : goal.invariant_of-self
invariant_of-self c =
    sound_among (state_of c.self.inside) _ _ _ _ c.keep_lasting.ensures c.deref.ensures.value c.keep_owners_among.ensures
    (sound_step (Expire c.args.now) (state_of c.self.inside) tt c.self.invariant)
