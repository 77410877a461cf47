use Rattle.warm_links.proofs.Lasting as lemma
use Rattle.warm_links.proofs.following.values_of_a_reporting_link_follow.Goals as goal

pub returns : goal.returns
returns c = lemma.values_follow_on c.steps_make_courses.ensures.steady c.items_are_made_once.ensures.config
