use Rattle.ua_values.specs.Types.{expanded_node_id}
use Rattle.ua_values.specs.Readers.{expanded_at}
use Rattle.ua_values.specs.Written.{written_expanded}
use Rattle.ua_values.specs.Laws.{KeepsExpanded}
use Rattle.ua_values.proofs.TypeCodecs.{expanded_codec}
use Rattle.ua_values.proofs.WrittenLemmas.{lawful, expanded_spelled}
use Rattle.ua_values.proofs.laws.expanded_node_ids_are_lawful.Goals as goal

pub returns : goal.returns
returns c = lawful KeepsExpanded expanded_node_id expanded_at written_expanded expanded_codec expanded_spelled
