use Rattle.link_laws.proofs.Modes as lemma
use Rattle.link_laws.proofs.requests.modes_are_wanted.Goals as goal

pub returns : goal.returns
returns c = lemma.modes_are_wanted
