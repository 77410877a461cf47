use Rattle.redundancy_nodes.proofs.Newest as lemma
use Rattle.redundancy_nodes.proofs.laws.newest_changes_are_current.Goals as goal

pub returns-clause-newest : goal.returns-clause-newest
returns-clause-newest c = lemma.newest

pub returns-clause-others : goal.returns-clause-others
returns-clause-others c = lemma.others

pub returns-clause-as_many : goal.returns-clause-as_many
returns-clause-as_many c = lemma.as_many
