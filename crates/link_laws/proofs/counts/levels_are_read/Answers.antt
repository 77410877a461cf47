use Rattle.link_laws.proofs.Levelling as lemma
use Rattle.link_laws.proofs.counts.levels_are_read.Goals as goal

pub returns : goal.returns
returns c = lemma.levels_are_read
