use Rattle.client_keeps.proofs.Rules as lemma
use Rattle.client_keeps.proofs.keeping.what_is_said_keeps_the_limits.Goals as goal

pub returns-clause-said : goal.returns-clause-said
returns-clause-said c = lemma.life_acts

pub returns-clause-client : goal.returns-clause-client
returns-clause-client c = lemma.life_client
