use Rattle.std.proofs.Common.{ℕ, List, sym, ap, subst, ◌∙◌}
use Rattle.ua_chunks.specs.Frames.{moved, stage_of}
use Rattle.ua_chunks.specs.Framing.{Framing, IsSettledAt}
use Rattle.ua_chunks.proofs.Pieces.{none_missed}
use Rattle.ua_chunks.proofs.framer.Framer.finish.Goals as goal

pub invariant_of-self : goal.invariant_of-self
invariant_of-self c =
    let s : Framing = record { place = c.self.inside.place; held = c.self.inside.held.items; missed = c.self.inside.missed; failed = c.self.inside.failed } in
    let none = none_missed s (ap (λ (s : Framing). s.held) c.self.view_is ∙ c.requires.empty) c.self.invariant in (
      c.self.invariant.0,
      subst
          (λ (held : List ℕ). IsSettledAt (stage_of held) (record { place = moved c.self.inside.place c.args.header.size; held = held; missed = c.self.inside.missed; failed = c.self.inside.failed }))
          (sym c.clear.ensures.items)
          none,
    )
