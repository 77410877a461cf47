use Rattle.link_keeps.proofs.Rules as lemma
use Rattle.link_keeps.proofs.keeping.what_is_said_keeps_the_limits.Goals as goal

pub returns-clause-said : goal.returns-clause-said
returns-clause-said c = lemma.life_said

pub returns-clause-link : goal.returns-clause-link
returns-clause-link c = lemma.life_link
