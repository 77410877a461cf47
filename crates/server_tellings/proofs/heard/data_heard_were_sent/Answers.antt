use Rattle.server_rules.specs.State.{new_server}
use Rattle.server_laws.specs.Course.{life_of}
use Rattle.server_tellings.proofs.Hearing.{life_again}
use Rattle.server_tellings.proofs.Sending.{published_sent, republished_sent}
use Rattle.server_tellings.proofs.heard.data_heard_were_sent.Goals as goal

pub returns-clause-published : goal.returns-clause-published
returns-clause-published c = λ config current happenings conn wire e tokens id number values fits also too.
    published_sent (life_of happenings (new_server config current)) conn wire e tokens id number values
    (life_again c.lives_are_steps.ensures.said happenings (new_server config current)
    (c.what_is_put_is_read_again.ensures config current happenings fits also too))

pub returns-clause-republished : goal.returns-clause-republished
returns-clause-republished c = λ config current happenings conn wire e tokens number values l fits also too.
    republished_sent (life_of happenings (new_server config current)) conn wire e tokens number values l
    (life_again c.lives_are_steps.ensures.said happenings (new_server config current)
    (c.what_is_put_is_read_again.ensures config current happenings fits also too))
