use Rattle.std.proofs.Common.{◌≤◌, ◌<◌, List, ℕ, ◌++◌, length, take, drop, sym, ap, subst, ◌∙◌, arith, rules}
use Rattle.ua_chunks.specs.Sending.{Sending, message_parts, parts_bytes, in_chunk}
use Rattle.ua_chunks.proofs.Chunking.{next_fits, steps, stops}
use Rattle.ua_chunks.proofs.sender.Sender.put_chunks.Goals as goal

pub loop-rest-preserved : goal.loop-rest-preserved
loop-rest-preserved c =
    let s : Sending = record c.args.self.now { next = c.loop-rest.number } in
    let i = c.loop-rest.invariant in
    let lt : in_chunk s < length c.loop-rest.rest.now = search rules in
    let turn = steps c.loop-rest.to.items c.args.kind c.args.request c.split_at.result.0.now c.split_at.result.1.now c.loop-rest.rest.now s c.next_chunk-number.result (omega (arith, i.3, i.4)) lt (c.split_at.ensures.front ∙ ap (λ (n : ℕ). take n c.loop-rest.rest.now) i.3) (c.split_at.ensures.back ∙ ap (λ (n : ℕ). drop n c.loop-rest.rest.now) i.3) c.next_chunk-number.ensures in (
      ap (λ (l : List ℕ). l ++ parts_bytes (message_parts c.args.kind c.args.request c.split_at.result.1.now (record c.args.self.now { next = c.next_chunk-number.result }))) c.in_ok-put_chunk.ensures ∙ turn.bytes ∙ i.0,
      turn.after ∙ i.1,
      subst (λ (n : ℕ). n ≤ 4294966272) (sym c.next_chunk-number.ensures) (next_fits c.loop-rest.number i.2),
      i.3,
      i.4,
      i.5,
    )

pub returns-clause-ok : goal.returns-clause-ok
returns-clause-ok c =
    let s : Sending = record c.args.self.now { next = c.loop-rest.number } in
    let i = c.loop-rest.invariant in
    let le : length c.loop-rest.rest.now ≤ in_chunk s = search rules in
    c.in_ok-put_chunk-2.ensures ∙ (stops c.loop-rest.to.items c.args.kind c.args.request c.loop-rest.rest.now s le).bytes ∙ i.0

pub returns-clause-next : goal.returns-clause-next
returns-clause-next c =
    let s : Sending = record c.args.self.now { next = c.loop-rest.number } in
    let i = c.loop-rest.invariant in
    let le : length c.loop-rest.rest.now ≤ in_chunk s = search rules in
    ap (λ (n : ℕ). record c.args.self.now { next = n }) c.next_chunk.ensures ∙ (stops c.loop-rest.to.items c.args.kind c.args.request c.loop-rest.rest.now s le).after ∙ i.1
