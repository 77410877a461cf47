use Rattle.link_laws.proofs.Running as lemma
use Rattle.link_laws.proofs.course.numbers_go_onward.Goals as goal

pub returns-clause-numbers : goal.returns-clause-numbers
returns-clause-numbers c = lemma.numbers_go_onward

pub returns-clause-items : goal.returns-clause-items
returns-clause-items c = lemma.items_stay
