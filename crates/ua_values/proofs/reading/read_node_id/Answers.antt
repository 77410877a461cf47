use Rattle.ua_values.specs.Readers.{node_at}
use Rattle.ua_values.specs.Types.{node_id}
use Rattle.ua_values.proofs.TypeCodecs.{node_codec}
use Rattle.ua_values.proofs.Answers.{exact_by, spelled_by}
use Rattle.ua_values.proofs.reading.read_node_id.Goals as goal

pub returns-clause-exact : goal.returns-clause-exact
returns-clause-exact c = exact_by node_at c.args.bytes.now c.new-from.result c.node_id-value.result c.node_id-value.new.self c.sized.result c.new-from.ensures c.node_id-value.ensures c.sized.ensures

pub returns-clause-spelled : goal.returns-clause-spelled
returns-clause-spelled c = spelled_by node_id node_at node_codec c.args.bytes.now c.new-from.result c.node_id-value.result c.node_id-value.new.self c.sized.result c.new-from.ensures c.node_id-value.ensures c.sized.ensures
