use Rattle.server_laws.proofs.Channels.{gives_next}
use Rattle.server_laws.proofs.ids.channel_ids_rise.Goals as goal

pub returns-clause-next : goal.returns-clause-next
returns-clause-next c = gives_next
