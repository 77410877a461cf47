use Rattle.std.proofs.Common.{◌≡◌, ◌≤◌, ◌-◌}
use Rattle.link_rules.specs.Requests.{item_requests}
use Rattle.link_turn.proofs.requests.item_requests.Given as goal

abbrev pub invariant-loop-item : goal.invariant-loop-item
invariant-loop-item l = (l.list.items ≡ item_requests l.config l.item) × (l.item ≤ l.config.items)

abbrev pub decreases-loop-item : goal.decreases-loop-item
decreases-loop-item l = l.config.items - l.item
