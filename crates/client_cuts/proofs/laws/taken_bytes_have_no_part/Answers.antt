use Rattle.client_cuts.proofs.Taking as lemma
use Rattle.client_cuts.proofs.laws.taken_bytes_have_no_part.Goals as goal

pub returns-clause-event : goal.returns-clause-event
returns-clause-event c = lemma.step_waiting

pub returns-clause-taken : goal.returns-clause-taken
returns-clause-taken c = lemma.taken_again

pub returns-clause-out : goal.returns-clause-out
returns-clause-out c = lemma.out_waiting

pub returns-clause-between : goal.returns-clause-between
returns-clause-between c = lemma.cut_between
