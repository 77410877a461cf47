use Rattle.client_laws.proofs.Choices as lemma
use Rattle.client_laws.proofs.switching.switches_go_to_the_best.Goals as goal

pub returns : goal.returns
returns c = lemma.are_best
