use Rattle.std.proofs.Common.{◌≡◌, drop}
use Rattle.set_rules.specs.Slots.{fed_all}
use Rattle.set_world.specs.Bytes.{nodes}
use Rattle.set_world.proofs.slot.Slot.feed_all.Given as goal

abbrev pub invariant-loop-change : goal.invariant-loop-change
invariant-loop-change l = fed_all nodes (drop l.change-index l.changes) l.self ≡ fed_all nodes l.fn.changes l.fn.self
