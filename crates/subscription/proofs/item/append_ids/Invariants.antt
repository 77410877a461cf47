use Rattle.std.proofs.Common.{◌≡◌, ◌≤◌, ◌+◌, ◌++◌, map, drop, length, vec_len, vec_capacity}
use Rattle.subscription.proofs.item.append_ids.Given as goal

abbrev pub invariant-loop-item : goal.invariant-loop-item
invariant-loop-item l =
    (l.ids.items ++ map (λ item. item.id) (drop l.item-index l.items) ≡ l.fn.ids.items ++ map (λ item. item.id) l.fn.items) ×
    (l.handles.items ++ map (λ item. item.handle) (drop l.item-index l.items) ≡ l.fn.handles.items ++ map (λ item. item.handle) l.fn.items) ×
    (vec_len l.ids + length (drop l.item-index l.items) ≤ vec_capacity l.ids) ×
    (vec_len l.handles + length (drop l.item-index l.items) ≤ vec_capacity l.handles)
