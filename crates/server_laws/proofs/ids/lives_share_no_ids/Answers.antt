use Rattle.server_laws.proofs.Sharing.{ids_apart, tokens_apart}
use Rattle.server_laws.proofs.ids.lives_share_no_ids.Goals as goal

pub returns-clause-ids : goal.returns-clause-ids
returns-clause-ids c = ids_apart

pub returns-clause-tokens : goal.returns-clause-tokens
returns-clause-tokens c = tokens_apart c.tokens_tell_apart.ensures.apart
