use Rattle.std.proofs.Common.{◌≡◌, ◌++◌, sym, ap, ◌∙◌}
use Rattle.std.proofs.lemmas.List.{take-append-drop}
use Rattle.ua_chunks.specs.Framing.{after_feed, frames_of}
use Rattle.ua_chunks.proofs.Pieces.{cut_frames, cut_state}
use Rattle.ua_chunks.proofs.framer.Framer.step.Goals as goal

pub returns-clause-state : goal.returns-clause-state
returns-clause-state c =
    let whole : c.split_at.result.0.now ++ c.split_at.result.1.now ≡ c.args.bytes.now = rw (c.split_at.ensures.front, c.split_at.ensures.back) (take-append-drop c.portion.result c.args.bytes.now) in
    ap (after_feed c.split_at.result.1.now) c.in_ok-fill.ensures.ok
    ∙ sym (cut_state c.split_at.result.0.now c.split_at.result.1.now c.args.self.now)
    ∙ ap (λ bytes. after_feed bytes c.args.self.now) whole

pub returns-clause-frames : goal.returns-clause-frames
returns-clause-frames c =
    let whole : c.split_at.result.0.now ++ c.split_at.result.1.now ≡ c.args.bytes.now = rw (c.split_at.ensures.front, c.split_at.ensures.back) (take-append-drop c.portion.result c.args.bytes.now) in
    record {
      front = frames_of c.split_at.result.0.now c.args.self.now;
      after_is = c.in_ok-fill.ensures.frames;
      whole = ap (λ bytes. frames_of bytes c.args.self.now) (sym whole)
          ∙ cut_frames c.split_at.result.0.now c.split_at.result.1.now c.args.self.now
          ∙ ap (λ s. frames_of c.split_at.result.0.now c.args.self.now ++ frames_of c.split_at.result.1.now s) (sym c.in_ok-fill.ensures.ok);
    }
