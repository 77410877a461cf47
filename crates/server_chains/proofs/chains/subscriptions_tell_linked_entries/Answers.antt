use Rattle.server_rules.specs.State.{new_server}
use Rattle.server_laws.proofs.Living.{course}
use Rattle.server_chains.proofs.chains.subscriptions_tell_linked_entries.Goals as goal

pub returns : goal.returns
returns c config current happenings id never =
    (c.courses_tell_linked_entries.ensures config current happenings id (course happenings (new_server config current)) never).0
