use Rattle.link_laws.proofs.Pacing as lemma
use Rattle.link_laws.proofs.counts.publishes_are_few.Goals as goal

pub returns : goal.returns
returns c = lemma.publishes_are_few
