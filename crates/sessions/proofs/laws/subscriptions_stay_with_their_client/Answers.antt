use Rattle.sessions.proofs.Transfers as lemma
use Rattle.sessions.proofs.laws.subscriptions_stay_with_their_client.Goals as goal

pub returns-clause-taken : goal.returns-clause-taken
returns-clause-taken c = lemma.taken

pub returns-clause-refused : goal.returns-clause-refused
returns-clause-refused c = lemma.other_client

pub returns-clause-unknown : goal.returns-clause-unknown
returns-clause-unknown c = lemma.unknown

pub returns-clause-others : goal.returns-clause-others
returns-clause-others c = lemma.others
