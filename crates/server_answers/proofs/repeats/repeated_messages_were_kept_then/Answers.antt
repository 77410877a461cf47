use Rattle.server_answers.proofs.Repeating.{kept_in_step}
use Rattle.server_answers.proofs.repeats.repeated_messages_were_kept_then.Goals as goal

pub returns-clause-step : goal.returns-clause-step
returns-clause-step c =
    kept_in_step c.lives_are_steps.ensures.said c.what_is_put_is_read_again.ensures c.subscriptions_are_calls.ensures.step
    c.repeated_messages_were_sent.ensures.step

pub returns-clause-answered : goal.returns-clause-answered
returns-clause-answered c = λ config current happenings conn place wire e tokens response x fits also too.
    kept_in_step c.lives_are_steps.ensures.said c.what_is_put_is_read_again.ensures c.subscriptions_are_calls.ensures.step
    c.repeated_messages_were_sent.ensures.step config current happenings conn x.heard wire e tokens response x.later x.earlier
    fits also too x.are x.puts
