use Rattle.server_rules.specs.State.{new_server}
use Rattle.server_rules.specs.Acts.{history}
use Rattle.server_keeps.proofs.Again.{all_again}
use Rattle.server_keeps.proofs.Living.{life_keeps}
use Rattle.server_keeps.proofs.laws.what_is_put_is_read_again.Goals as goal

pub returns : goal.returns
returns c = λ config current happenings fits also too.
    all_again (record {
      replies = c.replies_are_read_again.ensures.again;
      held = c.notifications_are_held.ensures;
      greetings = c.greetings_are_read.ensures.ack;
      errors = c.greetings_are_read.ensures.err;
    }) (history happenings (new_server config current)) (life_keeps config current happenings fits also too)
