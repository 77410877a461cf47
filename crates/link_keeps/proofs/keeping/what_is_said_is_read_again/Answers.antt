use Rattle.link_rules.specs.State.{new_link}
use Rattle.link_rules.specs.Step.{after_all}
use Rattle.link_keeps.proofs.Again.{all_again}
use Rattle.link_keeps.proofs.Rules.{life_said}
use Rattle.link_keeps.proofs.keeping.what_is_said_is_read_again.Goals as goal

pub returns : goal.returns
returns c = λ config happenings known kept.
    all_again (record { requests = c.requests_are_read_again.ensures.lawful; hellos = c.greetings_are_read.ensures.hello })
    (after_all happenings (new_link config)).said (life_said config happenings known kept)
