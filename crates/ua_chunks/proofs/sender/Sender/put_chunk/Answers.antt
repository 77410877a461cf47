use Rattle.std.proofs.Common.{List, ℕ, ◌++◌, ap, ◌∙◌}
use Rattle.ua_chunks.specs.Sending.{Sending, written_head}
use Rattle.ua_chunks.proofs.Chunking.{chunk_is}
use Rattle.ua_chunks.proofs.sender.Sender.put_chunk.Goals as goal

pub returns : goal.returns
returns c =
    let s : Sending = record c.args.self.now { next = c.args.number } in
    c.in_ok-extend_from_slice.ensures.items
    ∙ ap (λ (l : List ℕ). l ++ c.args.bytes.now) (c.in_ok-put_head.ensures ∙ ap (λ (l : List ℕ). l ++ written_head c.args.request s) c.in_ok-put_start.ensures)
    ∙ chunk_is c.args.to.now.items c.args.kind c.args.chunk c.args.request c.args.bytes.now s
