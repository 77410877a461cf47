use Rattle.link_following.proofs.Awaiting as lemma
use Rattle.link_following.proofs.following.values_of_a_link_follow.Goals as goal

pub returns : goal.returns
returns c = lemma.values_follow c.steps_make_courses.ensures.steady c.steps_make_courses.ensures.course
