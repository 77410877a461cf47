use Rattle.link_takings.proofs.Steps as lemma
use Rattle.link_takings.proofs.taking.steps_make_courses.Goals as goal

pub returns-clause-steady : goal.returns-clause-steady
returns-clause-steady c =
    lemma.all_step c.subscriptions_have_courses.ensures.course c.subscriptions_have_courses.ensures.stays

pub returns-clause-course : goal.returns-clause-course
returns-clause-course c = lemma.steps_make_courses c.items_are_made_once.ensures.config
