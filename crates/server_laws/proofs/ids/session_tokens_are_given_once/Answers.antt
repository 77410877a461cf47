use Rattle.server_laws.proofs.Sharing.{tokens_of_life}
use Rattle.server_laws.proofs.ids.session_tokens_are_given_once.Goals as goal

pub returns : goal.returns
returns c = tokens_of_life
