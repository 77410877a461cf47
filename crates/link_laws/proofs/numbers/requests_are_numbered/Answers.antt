use Rattle.link_laws.proofs.Numbering as lemma
use Rattle.link_laws.proofs.numbers.requests_are_numbered.Goals as goal

pub returns : goal.returns
returns c = lemma.requests_are_numbered
