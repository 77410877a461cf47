use Rattle.client_laws.proofs.Logs as lemma
use Rattle.client_laws.proofs.log.logs_are_of_their_acts.Goals as goal

pub returns-clause-log : goal.returns-clause-log
returns-clause-log c = lemma.log_is

pub returns-clause-within : goal.returns-clause-within
returns-clause-within c = lemma.acts_within

pub returns-clause-stands : goal.returns-clause-stands
returns-clause-stands c = lemma.log_stands

pub returns-clause-notes : goal.returns-clause-notes
returns-clause-notes c = lemma.acts_note
