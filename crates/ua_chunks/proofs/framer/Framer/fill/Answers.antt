use Rattle.std.proofs.Common.{◌++◌, sym, ap, ◌∙◌}
use Rattle.std.proofs.lemmas.List.{append-nil}
use Rattle.ua_chunks.specs.Frames.{stage_of}
use Rattle.ua_chunks.specs.Framing.{Framing, after_feed, frames_of}
use Rattle.ua_chunks.proofs.Pieces.{counts}
use Rattle.ua_chunks.proofs.framer.Framer.fill.Goals as goal

pub returns-in_default : goal.returns-in_default
returns-in_default c =
    let s : Framing = record { place = c.self.inside.place; held = c.self.inside.held.items; missed = c.self.inside.missed; failed = c.self.inside.failed } in
    let told = counts c.args.bytes.now s c.self.invariant (λ n e. c.in_default.not-Waits n (c.of.ensures ∙ ap stage_of c.deref.ensures.value ∙ e)) in
    record {
      ok = sym told.state ∙ ap (after_feed c.args.bytes.now) c.self.view_is;
      frames = sym (ap (λ fs. c.args.to.now.items ++ fs) (sym (ap (frames_of c.args.bytes.now) c.self.view_is) ∙ told.frames) ∙ append-nil c.args.to.now.items);
      part = tt;
    }
