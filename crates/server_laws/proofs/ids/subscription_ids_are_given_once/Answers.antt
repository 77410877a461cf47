use Rattle.server_laws.proofs.Sharing.{ids_of_life}
use Rattle.server_laws.proofs.ids.subscription_ids_are_given_once.Goals as goal

pub returns : goal.returns
returns c = ids_of_life
