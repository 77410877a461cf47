use Rattle.client_laws.proofs.Holding as lemma
use Rattle.client_laws.proofs.log.items_are_held_until_they_report.Goals as goal

pub returns : goal.returns
returns c = lemma.are_held
