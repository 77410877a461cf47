use Rattle.redundancy_nodes.proofs.Known.{known}
use Rattle.redundancy_nodes.proofs.laws.nodes_are_known.Goals as goal

pub returns : goal.returns
returns c = known
