use Rattle.client_links.proofs.Lives as lemma
use Rattle.client_links.proofs.links.links_live_in_clients.Goals as goal

pub returns : goal.returns
returns c = lemma.links_live
