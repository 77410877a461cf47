use Rattle.std.proofs.Common.{◌≡◌, ◌+◌, ◌-◌, ◌≤◌, vec_len, vec_capacity}
use Rattle.fanout.specs.Shown.{shown}
use Rattle.fanout.specs.Walk.{IsUnderWay}
use Rattle.fanout.proofs.attached.Fanout.tell.Given as goal

abbrev pub invariant-loop-place : goal.invariant-loop-place
invariant-loop-place g l =
    IsUnderWay l.line (shown (λ e. (goal.Listener-dyn g (e.listener.vtable, e.listener.value)).heard e.listener.value) l.fn.self).attached l.fn.to.items (shown (λ e. (goal.Listener-dyn g (e.listener.vtable, e.listener.value)).heard e.listener.value) l.self).attached l.to.items l.place
    × (l.self.last ≡ l.fn.self.last)
    × (vec_len l.to + vec_len l.self.entries ≤ vec_capacity l.to)

abbrev pub decreases-loop-place : goal.decreases-loop-place
decreases-loop-place g l = vec_len l.self.entries - l.place
