use Rattle.std.proofs.Common.{◌≡◌}
use Rattle.link_rules.specs.Said.{tells}
use Rattle.link_rules.specs.Subscribing.{streams}
use Rattle.link_turn.specs.Turns.{done}
use Rattle.link_starting.proofs.subscribing.tell_streams.Given as goal

abbrev pub invariant-loop-item : goal.invariant-loop-item
invariant-loop-item l = l.turn ≡ done (tells (streams l.item) l.fn.turn.link) l.fn.turn
