use Rattle.link_laws.proofs.Dialling as lemma
use Rattle.link_laws.proofs.counts.dials_are_paced.Goals as goal

pub returns : goal.returns
returns c = lemma.dials_are_paced
