use Rattle.client_laws.proofs.Switches as lemma
use Rattle.client_laws.proofs.switching.switches_are_few.Goals as goal

pub returns : goal.returns
returns c = lemma.are_few
