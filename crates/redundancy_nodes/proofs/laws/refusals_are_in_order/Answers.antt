use Rattle.redundancy_nodes.proofs.Known.{is_read, not_read, refused}
use Rattle.redundancy_nodes.proofs.laws.refusals_are_in_order.Goals as goal

pub returns-clause-unknown : goal.returns-clause-unknown
returns-clause-unknown c = refused

pub returns-clause-attribute : goal.returns-clause-attribute
returns-clause-attribute c = not_read

pub returns-clause-value : goal.returns-clause-value
returns-clause-value c = is_read
