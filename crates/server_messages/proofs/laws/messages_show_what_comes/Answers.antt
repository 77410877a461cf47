use Rattle.ua_server.specs.declared.event.ServerEvent.TheVariants as event
use Rattle.server_messages.proofs.Coming.{awaits_heard, shows_heard}
use Rattle.server_messages.proofs.laws.messages_show_what_comes.Goals as goal

pub returns-clause-shown : goal.returns-clause-shown
returns-clause-shown c = shows_heard (record {
  keeps = c.what_is_put_keeps_the_limits.ensures.step;
  lawful = c.orders_are_lawful.ensures.step;
  opens = c.orders_are_lawful.ensures.opens;
  message = c.replies_that_keep_fit.ensures.message;
  opening = c.replies_that_keep_fit.ensures.opening;
}) (λ bytes conn r m. c.ends_are_of_connections.ensures.step (event.Bytes conn bytes) r m)

pub returns-clause-awaits : goal.returns-clause-awaits
returns-clause-awaits c = awaits_heard (record {
  keeps = c.what_is_put_keeps_the_limits.ensures.step;
  lawful = c.orders_are_lawful.ensures.step;
  opens = c.orders_are_lawful.ensures.opens;
  message = c.replies_that_keep_fit.ensures.message;
  opening = c.replies_that_keep_fit.ensures.opening;
})
