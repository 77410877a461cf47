use Rattle.server_laws.proofs.Granting.{channels_next, responses_told}
use Rattle.server_laws.proofs.ids.channel_ids_are_told.Goals as goal

pub returns-clause-told : goal.returns-clause-told
returns-clause-told c = responses_told

pub returns-clause-rise : goal.returns-clause-rise
returns-clause-rise c = channels_next
