use Rattle.client_links.proofs.Joints as lemma
use Rattle.client_links.proofs.feeding.linked_values_feed_the_log.Goals as goal

pub returns-clause-fed : goal.returns-clause-fed
returns-clause-fed c = lemma.are_fed

pub returns-clause-safe : goal.returns-clause-safe
returns-clause-safe c =
    lemma.are_safe c.well_fed_is_safe.ensures
    (λ config moments. (c.logs_are_of_their_acts.ensures.stands config moments).lines)
