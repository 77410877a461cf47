use Rattle.link_laws.proofs.Acknowledging as lemma
use Rattle.link_laws.proofs.numbers.acknowledged_were_heard.Goals as goal

pub returns : goal.returns
returns c = lemma.acknowledged_were_heard
