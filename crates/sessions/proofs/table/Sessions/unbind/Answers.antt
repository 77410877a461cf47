use Rattle.sessions.specs.Calls.{Unbind}
use Rattle.sessions.proofs.StaysSound.{sound_sessions, state_of}
use Rattle.sessions.proofs.Steps.{sound_step}
use Rattle.sessions.proofs.table.Sessions.unbind.Goals as goal

pub invariant_of-self : goal.invariant_of-self
invariant_of-self c =
    sound_sessions (state_of c.self.inside) _ _ c.unbind_all.ensures
    (sound_step (Unbind c.args.conn) (state_of c.self.inside) tt c.self.invariant)
