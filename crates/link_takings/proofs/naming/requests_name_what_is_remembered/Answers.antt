use Rattle.link_takings.proofs.Named as lemma
use Rattle.link_takings.proofs.naming.requests_name_what_is_remembered.Goals as goal

pub returns : goal.returns
returns c = lemma.event_named
