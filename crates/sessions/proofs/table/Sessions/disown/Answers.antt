use Rattle.sessions.specs.Calls.{Disown}
use Rattle.sessions.proofs.StaysSound.{sound_owners, state_of}
use Rattle.sessions.proofs.Steps.{sound_step}
use Rattle.sessions.proofs.table.Sessions.disown.Goals as goal

pub invariant_of-self : goal.invariant_of-self
invariant_of-self c =
    sound_owners (state_of c.self.inside) _ _ c.drop_ownership.ensures
    (sound_step (Disown c.args.id) (state_of c.self.inside) tt c.self.invariant)
