use Rattle.client_laws.proofs.Choices as lemma
use Rattle.client_laws.proofs.switching.switches_are_choices.Goals as goal

pub returns : goal.returns
returns c = lemma.are_choices
