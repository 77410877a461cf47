use Rattle.ua_values.specs.Readers.{expanded_at}
use Rattle.ua_values.specs.Types.{expanded_node_id}
use Rattle.ua_values.proofs.TypeCodecs.{expanded_codec}
use Rattle.ua_values.proofs.Answers.{exact_by, spelled_by}
use Rattle.ua_values.proofs.reading.read_expanded_node_id.Goals as goal

pub returns-clause-exact : goal.returns-clause-exact
returns-clause-exact c = exact_by expanded_at c.args.bytes.now c.new-from.result c.expanded_node_id-value.result c.expanded_node_id-value.new.self c.sized.result c.new-from.ensures c.expanded_node_id-value.ensures c.sized.ensures

pub returns-clause-spelled : goal.returns-clause-spelled
returns-clause-spelled c = spelled_by expanded_node_id expanded_at expanded_codec c.args.bytes.now c.new-from.result c.expanded_node_id-value.result c.expanded_node_id-value.new.self c.sized.result c.new-from.ensures c.expanded_node_id-value.ensures c.sized.ensures
