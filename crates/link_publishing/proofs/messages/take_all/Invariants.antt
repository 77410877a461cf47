use Rattle.std.proofs.Common.{◌≡◌, length}
use Rattle.link_rules.specs.Said.{tells}
use Rattle.link_rules.specs.Messages.{all_taken}
use Rattle.link_turn.specs.Turns.{done}
use Rattle.link_publishing.proofs.messages.take_all.Given as goal

abbrev pub invariant-loop-one : goal.invariant-loop-one
invariant-loop-one l =
    done (tells (all_taken l.turn.link.monitored l.one-iterator.rest.items) l.turn.link) l.turn
    ≡ done (tells (all_taken l.fn.turn.link.monitored l.fn.values.items) l.fn.turn.link) l.fn.turn

abbrev pub decreases-loop-one : goal.decreases-loop-one
decreases-loop-one l = length l.one-iterator.rest.items
