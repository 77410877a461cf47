use Rattle.std.proofs.Common.{rules, refl, ◌∙◌, ◌≤◌, ◌+◌, vec_len, vec_capacity}
use Rattle.fanout.proofs.Passing.{starts}
use Rattle.fanout.proofs.attached.Fanout.tell.Goals as goal

pub loop-place-init : goal.loop-place-init
loop-place-init g c =
    let room : vec_len c.reserve.new.self + vec_len c.args.self.now.entries ≤ vec_capacity c.reserve.new.self = search rules in
    (starts c.args.line.now _ c.args.to.now.items c.reserve.new.self.items c.reserve.ensures.items, refl, room)

pub loop-place-preserved : goal.loop-place-preserved
loop-place-preserved g c =
    (c.tell_at-place.ensures.on _ _ c.loop-place.invariant.0, c.tell_at-place.ensures.last ∙ c.loop-place.invariant.1, c.tell_at-place.ensures.capacity)
