use Rattle.std.proofs.Common.{ℕ, ◌+◌, ◌%◌, ◌^◌, ◌<◌, sym, ap, subst, ◌∙◌}
use Rattle.ua_chunks.specs.Frames.{fault_of}
use Rattle.ua_chunks.specs.Framing.{Framing}
use Rattle.ua_chunks.proofs.Pieces.{small}
use Rattle.ua_chunks.proofs.framer.Framer.rest.Goals as goal

pub returns-clause-bound : goal.returns-clause-bound
returns-clause-bound c =
    λ none.
    let s : Framing = record { place = c.self.inside.place; held = c.self.inside.held.items; missed = c.self.inside.missed; failed = c.self.inside.failed } in
    subst (λ (n : ℕ). (n + c.self.inside.missed) % 2 ^ 64 < 65536) (sym (c.len.ensures ∙ c.self.inside.held.ok.0)) (small s c.self.invariant (ap (λ (s : Framing). fault_of s.held) c.self.view_is ∙ none))
