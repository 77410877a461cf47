use Rattle.link_takings.proofs.Exchanging as lemma
use Rattle.link_takings.proofs.exchange.republished_messages_were_asked_for.Goals as goal

pub returns : goal.returns
returns c = lemma.asked_for
