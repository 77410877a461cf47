use Rattle.server_rules.specs.State.{new_server}
use Rattle.server_laws.specs.Course.{said_after}
use Rattle.server_tellings.proofs.Hearing.{life_again, was_said}
use Rattle.server_tellings.proofs.heard.what_is_heard_was_said.Goals as goal

pub returns : goal.returns
returns c = λ config current happenings conn wire e tokens answer fits also too.
    was_said (said_after happenings (new_server config current)) conn wire e tokens answer
    (life_again c.lives_are_steps.ensures.said happenings (new_server config current)
    (c.what_is_put_is_read_again.ensures config current happenings fits also too))
