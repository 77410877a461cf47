use Rattle.client_laws.proofs.Rising as lemma
use Rattle.client_laws.proofs.log.stamps_rise.Goals as goal

pub returns : goal.returns
returns c = lemma.stamps_rise
