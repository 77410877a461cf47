use Rattle.client_messages.proofs.Beginning as lemma
use Rattle.client_messages.proofs.laws.a_client_begins.Goals as goal

pub returns : goal.returns
returns c = lemma.begins
