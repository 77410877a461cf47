use Rattle.link_takings.proofs.Steps as lemma
use Rattle.link_takings.proofs.taking.data_come_of_the_subscription.Goals as goal

pub returns : goal.returns
returns c = lemma.data_come (c.subscriptions_have_courses.ensures.course)
