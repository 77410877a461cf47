use Rattle.client_dials.proofs.Counting.{connections_few}
use Rattle.client_dials.proofs.dials.connections_are_few.Goals as goal

pub returns : goal.returns
returns c = connections_few c.dials_are_paced.ensures
