use Rattle.std.proofs.Common.{refl}
use Rattle.link_laws.proofs.Courses as lemma
use Rattle.link_laws.proofs.course.subscriptions_have_courses.Goals as goal

pub returns-clause-first : goal.returns-clause-first
returns-clause-first c = λ config e. refl

pub returns-clause-stays : goal.returns-clause-stays
returns-clause-stays c = lemma.event_steady

pub returns-clause-course : goal.returns-clause-course
returns-clause-course c = lemma.subscriptions_have_courses
