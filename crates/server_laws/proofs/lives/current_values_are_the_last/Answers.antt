use Rattle.server_laws.proofs.Currents.{currents_are}
use Rattle.server_laws.proofs.lives.current_values_are_the_last.Goals as goal

pub returns : goal.returns
returns c = currents_are
