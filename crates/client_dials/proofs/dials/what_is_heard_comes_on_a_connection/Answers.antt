use Rattle.client_dials.proofs.Hearing.{heard_on_connection}
use Rattle.client_dials.proofs.dials.what_is_heard_comes_on_a_connection.Goals as goal

pub returns : goal.returns
returns c = λ config front h more. heard_on_connection config front h more
