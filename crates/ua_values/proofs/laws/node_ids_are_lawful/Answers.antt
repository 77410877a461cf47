use Rattle.ua_values.specs.Types.{node_id}
use Rattle.ua_values.specs.Readers.{node_at}
use Rattle.ua_values.specs.Written.{written_node}
use Rattle.ua_values.specs.Laws.{KeepsNode}
use Rattle.ua_values.proofs.TypeCodecs.{node_codec}
use Rattle.ua_values.proofs.WrittenLemmas.{lawful, node_spelled}
use Rattle.ua_values.proofs.laws.node_ids_are_lawful.Goals as goal

pub returns : goal.returns
returns c = lawful KeepsNode node_id node_at written_node node_codec node_spelled
