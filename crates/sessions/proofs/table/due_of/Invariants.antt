use Rattle.std.proofs.Common.{◌≡◌, ◌≤◌, ◌-◌, ◌^◌, drop, min}
use Rattle.sessions.specs.Table.{due_of}
use Rattle.sessions.proofs.table.due_of.Given as goal

abbrev pub invariant-loop-session : goal.invariant-loop-session
invariant-loop-session l = (l.due ≤ 2 ^ 64 - 1) × (min l.due (due_of (drop l.session-index l.sessions)) ≡ due_of l.sessions)
