use Rattle.client_links.proofs.Others as lemma
use Rattle.client_links.proofs.links.others_tell_nothing.Goals as goal

pub returns : goal.returns
returns c = lemma.others_are_silent
