use Rattle.ua_server.specs.declared.event.ServerEvent.TheVariants as event
use Rattle.server_messages.proofs.Events.{shows_closed, shows_fed, shows_first, shows_leveled, shows_opened, shows_ticked}
use Rattle.server_messages.proofs.Taking.{same_closing, shows_taken, was_put}
use Rattle.server_messages.proofs.laws.messages_show_bytes.Goals as goal

pub returns-clause-begins : goal.returns-clause-begins
returns-clause-begins c = λ config current fits also. record {
  stands = shows_first config current (c.what_is_put_keeps_the_limits.ensures.first config current fits also);
  matches = c.ends_are_of_connections.ensures.first config current;
}

pub returns-clause-opened : goal.returns-clause-opened
returns-clause-opened c = λ firsts conn r t none s. record {
  stands = shows_opened (record {
    keeps = c.what_is_put_keeps_the_limits.ensures.step;
    lawful = c.orders_are_lawful.ensures.step;
    opens = c.orders_are_lawful.ensures.opens;
    message = c.replies_that_keep_fit.ensures.message;
    opening = c.replies_that_keep_fit.ensures.opening;
  }) firsts conn r t none s.matches s.stands;
  matches = c.ends_are_of_connections.ensures.step (event.Opened conn) r s.matches;
}

pub returns-clause-closed : goal.returns-clause-closed
returns-clause-closed c = λ firsts conn r t s. record {
  stands = shows_closed (record {
    keeps = c.what_is_put_keeps_the_limits.ensures.step;
    lawful = c.orders_are_lawful.ensures.step;
    opens = c.orders_are_lawful.ensures.opens;
    message = c.replies_that_keep_fit.ensures.message;
    opening = c.replies_that_keep_fit.ensures.opening;
  }) firsts conn r t s.matches s.stands;
  matches = c.ends_are_of_connections.ensures.step (event.Closed conn) r s.matches;
}

pub returns-clause-fed : goal.returns-clause-fed
returns-clause-fed c = λ firsts change r t fits s. record {
  stands = shows_fed (record {
    keeps = c.what_is_put_keeps_the_limits.ensures.step;
    lawful = c.orders_are_lawful.ensures.step;
    opens = c.orders_are_lawful.ensures.opens;
    message = c.replies_that_keep_fit.ensures.message;
    opening = c.replies_that_keep_fit.ensures.opening;
  }) firsts change r t fits s.stands;
  matches = c.ends_are_of_connections.ensures.step (event.Feed change) r s.matches;
}

pub returns-clause-ticked : goal.returns-clause-ticked
returns-clause-ticked c = λ firsts ms r t s. record {
  stands = shows_ticked (record {
    keeps = c.what_is_put_keeps_the_limits.ensures.step;
    lawful = c.orders_are_lawful.ensures.step;
    opens = c.orders_are_lawful.ensures.opens;
    message = c.replies_that_keep_fit.ensures.message;
    opening = c.replies_that_keep_fit.ensures.opening;
  }) firsts ms r t s.stands;
  matches = c.ends_are_of_connections.ensures.step (event.Tick ms) r s.matches;
}

pub returns-clause-leveled : goal.returns-clause-leveled
returns-clause-leveled c = λ firsts level r t fits s. record {
  stands = shows_leveled (record {
    keeps = c.what_is_put_keeps_the_limits.ensures.step;
    lawful = c.orders_are_lawful.ensures.step;
    opens = c.orders_are_lawful.ensures.opens;
    message = c.replies_that_keep_fit.ensures.message;
    opening = c.replies_that_keep_fit.ensures.opening;
  }) firsts level r t fits s.stands;
  matches = c.ends_are_of_connections.ensures.step (event.Level level) r s.matches;
}

pub returns-clause-taken : goal.returns-clause-taken
returns-clause-taken c = shows_taken

pub returns-clause-put : goal.returns-clause-put
returns-clause-put c = was_put

pub returns-clause-closing : goal.returns-clause-closing
returns-clause-closing c = same_closing
