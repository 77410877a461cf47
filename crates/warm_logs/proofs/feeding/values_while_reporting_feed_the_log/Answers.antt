use Rattle.warm_logs.proofs.Begun as begun
use Rattle.warm_logs.proofs.Joints as lemma
use Rattle.warm_logs.proofs.feeding.values_while_reporting_feed_the_log.Goals as goal

pub returns-clause-fed : goal.returns-clause-fed
returns-clause-fed c =
    lemma.are_fed
    (begun.are_begun c.subscriptions_have_courses.ensures.course c.links_live_in_clients.ensures c.others_tell_nothing.ensures)

pub returns-clause-safe : goal.returns-clause-safe
returns-clause-safe c =
    lemma.are_safe
    (begun.are_begun c.subscriptions_have_courses.ensures.course c.links_live_in_clients.ensures c.others_tell_nothing.ensures)
    c.well_fed_is_safe.ensures
    (λ config moments. (c.logs_are_of_their_acts.ensures.stands config moments).lines)
