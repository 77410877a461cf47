use Rattle.std.proofs.Common.{◌≡◌, List, ℕ, Some, None, drop, sym, ap, subst, ◌∙◌}
use Rattle.ua_chunks.specs.Assembly.{Adds, Assembly, after_frame, fault_after, head_of, message_by, message_of, numbered, unless_faulty, with_chunk, with_fault}
use Rattle.ua_chunks.proofs.message.Assembler.add.Goals as goal

pub returns-in-Some : goal.returns-in-Some
unfolding after_frame message_of
returns-in-Some c =
    let f = c.args.frame.now in
    let s = c.args.self.now in
    let some : fault_after f s ≡ Some c.in-Some.fault = sym c.fault_after.ensures ∙ c.in-Some.is in
    let new = ap (λ (t : Assembly). record t { fault = Some c.in-Some.fault }) c.self.view_is ∙ sym (ap (λ o. with_fault o f s) some) in
    subst (λ r. Adds r f s (record { channel = c.self.inside.channel; token = c.self.inside.token; former = c.self.inside.former; last = c.self.inside.last; chunks = c.self.inside.chunks; request = c.self.inside.request; body = c.self.inside.body.items; fault = Some c.in-Some.fault })) (sym c.answer.ensures) (some, new)

pub returns-in-Ok : goal.returns-in-Ok
unfolding after_frame message_of
returns-in-Ok c =
    let f = c.args.frame.now in
    let s = c.args.self.now in
    let none : fault_after f s ≡ None = sym c.fault_after.ensures ∙ c.in_default.is in (
      none,
      c.in-Ok.ensures.state ∙ ap (λ (b : List ℕ). with_chunk f.chunk (head_of b) (drop 16 b) (numbered (head_of b) s)) c.bytes.ensures ∙ sym (ap (λ o. with_fault o f s) none),
      c.in-Ok.ensures.message ∙ ap (λ (b : List ℕ). message_by f.chunk (head_of b) (drop 16 b) s) c.bytes.ensures ∙ sym (ap (λ o. unless_faulty o f s) none),
    )
