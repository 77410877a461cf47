use Rattle.client_messages.proofs.Taking as lemma
use Rattle.client_messages.proofs.laws.what_is_put_is_taken.Goals as goal

pub returns-clause-put : goal.returns-clause-put
returns-clause-put c = lemma.out_put

pub returns-clause-taken : goal.returns-clause-taken
returns-clause-taken c = lemma.out_taken

pub returns-clause-wish : goal.returns-clause-wish
returns-clause-wish c = lemma.wish_stands
