use Rattle.std.proofs.Common.{◌≡◌, ◌≤◌, ◌-◌, ◌^◌, drop, min}
use Rattle.server_subs.specs.Due.{subs_due}
use Rattle.server_subs.proofs.timer.subs_due.Given as goal

abbrev pub invariant-loop-sub : goal.invariant-loop-sub
invariant-loop-sub l = (l.due ≤ 2 ^ 64 - 1) × (min l.due (subs_due (drop l.sub-index l.subs)) ≡ subs_due l.subs)
