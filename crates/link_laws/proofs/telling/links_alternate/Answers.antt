use Rattle.link_laws.proofs.Alternating as lemma
use Rattle.link_laws.proofs.telling.links_alternate.Goals as goal

pub returns-clause-turns : goal.returns-clause-turns
returns-clause-turns c = lemma.they_alternate

pub returns-clause-ready : goal.returns-clause-ready
returns-clause-ready c = lemma.they_tell
