use Rattle.std.proofs.Common.{List, ℕ, Ok, sym, ap, ◌∙◌}
use Rattle.ua_values.specs.Reading.{input}
use Rattle.ua_chunks.specs.Bodies.{opn_head_at, opn_of}
use Rattle.ua_chunks.proofs.BodyCodecs.{left_of}
use Rattle.ua_chunks.proofs.opening.whole_opn.Goals as goal

pub rest-requires : goal.rest-requires
rest-requires c = left_of c.args.body.now c.in_ok-head.head c.take_opn_head.new.from (ap opn_head_at (sym c.new-from.ensures) ∙ c.in_ok-head.ensures)

pub returns : goal.returns
returns c =
    ap opn_of (ap opn_head_at (sym c.new-from.ensures) ∙ c.in_ok-head.ensures)
    ∙ ap (λ (l : List ℕ). opn_of (Ok (c.in_ok-head.head, input 0 l))) (sym (c.new.ensures ∙ c.in_ok-own.ensures.items ∙ c.rest.ensures))
