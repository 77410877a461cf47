use Rattle.std.proofs.Common.{◌≡◌, ◌≤◌, ◌++◌, length}
use Rattle.ua_chunks.specs.Sending.{after_parts, message_parts, parts_bytes, in_chunk}
use Rattle.ua_chunks.proofs.sender.Sender.put_chunks.Given as goal

abbrev pub invariant-loop-rest : goal.invariant-loop-rest
invariant-loop-rest l =
    (l.to.items ++ parts_bytes (message_parts l.kind l.request l.rest (record l.fn.self { next = l.number })) ≡ l.fn.to.items ++ parts_bytes (message_parts l.kind l.request l.body l.fn.self))
    × (after_parts (message_parts l.kind l.request l.rest (record l.fn.self { next = l.number })) (record l.fn.self { next = l.number }) ≡ after_parts (message_parts l.kind l.request l.body l.fn.self) l.fn.self)
    × (l.number ≤ 4294966272) × (l.most ≡ in_chunk l.fn.self) × (8168 ≤ l.most) × (l.most ≤ 65512)

abbrev pub decreases-loop-rest : goal.decreases-loop-rest
decreases-loop-rest l = length l.rest
