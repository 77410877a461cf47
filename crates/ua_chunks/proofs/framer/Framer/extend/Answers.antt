use Rattle.std.proofs.Common.{◌≡◌, List, ℕ, [], ◌∷◌, ◌++◌, length, sym, ap, subst, ◌∙◌}
use Rattle.std.proofs.lemmas.List.{append-nil}
use Rattle.ua_chunks.specs.Frames.{frame_at, stage_of}
use Rattle.ua_chunks.specs.Framing.{Awaits, Framing, after_feed, frames_of}
use Rattle.ua_chunks.proofs.Pieces.{extends, ends}
use Rattle.ua_chunks.proofs.framer.Framer.extend.Goals as goal

pub returns-in_ok-finish-in-Whole-clause-ok : goal.returns-in_ok-finish-in-Whole-clause-ok
returns-in_ok-finish-in-Whole-clause-ok c =
    let s : Framing = record { place = c.self.inside.place; held = c.self.inside.held.items; missed = c.self.inside.missed; failed = c.self.inside.failed } in
    let items : c.extend_from_slice.new.self.items ≡ s.held ++ c.args.bytes.now = c.in_ok-extend_from_slice.ensures.items ∙ ap (λ v. v.items ++ c.args.bytes.now) c.replace-held.ensures.value in
    let room = subst (λ (s : Framing). Awaits (length c.args.bytes.now) (stage_of s.held)) (sym c.self.view_is) c.requires in
    let told = ends c.args.bytes.now s c.in-Whole.header c.self.invariant.0 room (sym (c.of.ensures ∙ ap stage_of (c.deref.ensures.value ∙ items)) ∙ c.in-Whole.is) in
    c.in_ok-finish-in-Whole.ensures.ok ∙ sym told.state ∙ ap (after_feed c.args.bytes.now) c.self.view_is

pub returns-in_ok-finish-in-Whole-clause-frames : goal.returns-in_ok-finish-in-Whole-clause-frames
returns-in_ok-finish-in-Whole-clause-frames c =
    let s : Framing = record { place = c.self.inside.place; held = c.self.inside.held.items; missed = c.self.inside.missed; failed = c.self.inside.failed } in
    let items : c.extend_from_slice.new.self.items ≡ s.held ++ c.args.bytes.now = c.in_ok-extend_from_slice.ensures.items ∙ ap (λ v. v.items ++ c.args.bytes.now) c.replace-held.ensures.value in
    let room = subst (λ (s : Framing). Awaits (length c.args.bytes.now) (stage_of s.held)) (sym c.self.view_is) c.requires in
    let told = ends c.args.bytes.now s c.in-Whole.header c.self.invariant.0 room (sym (c.of.ensures ∙ ap stage_of (c.deref.ensures.value ∙ items)) ∙ c.in-Whole.is) in
    c.in_ok-finish-in-Whole.ensures.frames
    ∙ ap (λ (bytes : List ℕ). c.args.to.now.items ++ frame_at s.place c.in-Whole.header bytes ∷ []) items
    ∙ ap (λ fs. c.args.to.now.items ++ fs) (sym told.frames ∙ ap (frames_of c.args.bytes.now) c.self.view_is)

pub returns-in_default : goal.returns-in_default
returns-in_default c =
    let s : Framing = record { place = c.self.inside.place; held = c.self.inside.held.items; missed = c.self.inside.missed; failed = c.self.inside.failed } in
    let items : c.extend_from_slice.new.self.items ≡ s.held ++ c.args.bytes.now = c.in_ok-extend_from_slice.ensures.items ∙ ap (λ v. v.items ++ c.args.bytes.now) c.replace-held.ensures.value in
    let room = subst (λ (s : Framing). Awaits (length c.args.bytes.now) (stage_of s.held)) (sym c.self.view_is) c.requires in
    let told = extends c.args.bytes.now s c.self.invariant.0 room (λ h e. c.in_default.not-Whole h (c.of.ensures ∙ ap stage_of (c.deref.ensures.value ∙ items) ∙ e)) in
    record {
      ok = ap (λ (held : List ℕ). record { place = s.place; held = held; missed = s.missed; failed = s.failed }) items ∙ sym told.state ∙ ap (after_feed c.args.bytes.now) c.self.view_is;
      frames = sym (ap (λ fs. c.args.to.now.items ++ fs) (sym (ap (frames_of c.args.bytes.now) c.self.view_is) ∙ told.frames) ∙ append-nil c.args.to.now.items);
      part = tt;
    }
