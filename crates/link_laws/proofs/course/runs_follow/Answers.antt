use Rattle.link_laws.proofs.Running as lemma
use Rattle.link_laws.proofs.course.runs_follow.Goals as goal

pub returns-clause-follow : goal.returns-clause-follow
returns-clause-follow c = lemma.runs_follow

pub returns-clause-nothing : goal.returns-clause-nothing
returns-clause-nothing c = lemma.nothing_is_told
