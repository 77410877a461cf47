use Rattle.std.proofs.Common.{List, ℕ, None, Some, ◌++◌, ap, ◌∙◌}
use Rattle.byteorder.specs.Endian.{little_bytes}
use Rattle.ua_values.specs.Written.{written_text}
use Rattle.ua_chunks.specs.Sending.{Sending, none_policy, opn_head_of}
use Rattle.ua_chunks.specs.Bodies.{written_opn_head}
use Rattle.ua_chunks.proofs.Chunking.{six}
use Rattle.ua_chunks.proofs.sender.Sender.put_opn_head.Goals as goal

pub returns : goal.returns
returns c =
    let s : Sending = record { channel = c.self.inside.channel; token = c.self.inside.token; size = c.self.inside.size; max_message = c.self.inside.max_message; max_chunks = c.self.inside.max_chunks; next = c.self.inside.next } in
    let first = c.in_ok-write_uint32.ensures.ok in
    let second = c.in_ok-put_policy.ensures ∙ ap (λ (l : List ℕ). l ++ written_text (Some none_policy)) first in
    let third = c.in_ok-put_null.ensures ∙ ap (λ (l : List ℕ). l ++ written_text None) second in
    let fourth = c.in_ok-put_null-2.ensures ∙ ap (λ (l : List ℕ). l ++ written_text None) third in
    let fifth = c.in_ok-write_uint32-2.ensures.ok ∙ ap (λ (l : List ℕ). l ++ little_bytes 4 s.next) fourth in
    c.in_ok-write_uint32-3.ensures.ok ∙ ap (λ (l : List ℕ). l ++ little_bytes 4 c.args.request) fifth
    ∙ six c.args.to.now.items (little_bytes 4 s.channel) (written_text (Some none_policy)) (written_text None) (written_text None) (little_bytes 4 s.next) (little_bytes 4 c.args.request)
    ∙ ap (λ (s : Sending). c.args.to.now.items ++ written_opn_head (opn_head_of c.args.request s)) c.self.view_is
