use Rattle.link_laws.proofs.Missed as lemma
use Rattle.link_laws.proofs.missing.missed_messages_are_asked_for.Goals as goal

pub returns-clause-kept : goal.returns-clause-kept
returns-clause-kept c = lemma.kept_are_wanted

pub returns-clause-behind : goal.returns-clause-behind
returns-clause-behind c = lemma.missed_are_behind

pub returns-clause-skipped : goal.returns-clause-skipped
returns-clause-skipped c = lemma.lost_are_skipped
