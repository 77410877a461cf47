-- What is shown of a stream that came as one piece.
use Rattle.std.proofs.Common.{◌≡◌, ℕ, ◌%◌, ◌^◌, List, [], ◌∷◌, ◌++◌, length, Option, Some, None, Ok, Err, refl, sym, ap, ap₂, subst, ◌∙◌}
use Rattle.std.specs.List.{flat_map}
use Rattle.std.proofs.lemmas.List.{append-nil}
use Rattle.ua_chunks.specs.declared.frame.Frame.{Frame}
use Rattle.ua_chunks.specs.declared.frame.FrameFault.{FrameFault}
use Rattle.ua_chunks.specs.declared.frame.FrameFault.TheVariants as frames
use Rattle.ua_chunks.specs.Frames.{Split, fault_of, framed}
use Rattle.ua_chunks.specs.Framing.{Framing, Feeds, StandsAt, after_feed, frames_of, new_framing, rest_of}
use Rattle.ua_chunks.proofs.Streaming.{stands}
use Rattle.show.specs.declared.fault.ShowFault.{ShowFault}
use Rattle.show.specs.Answer.{refusal, IsShownFault}
use Rattle.show.specs.Stream.{IsFrameFault, frame_line, rest_line, stream_text, shown_split, shown_stream}

stands_at : (bytes : List ℕ) → StandsAt (framed 0 bytes) (after_feed bytes new_framing)
stands_at bytes = subst (λ (l : List ℕ). StandsAt (framed 0 l) (after_feed bytes new_framing)) (append-nil bytes) (stands (bytes ∷ []))

frames_are : (bytes : List ℕ) → frames_of bytes new_framing ≡ (framed 0 bytes).frames
unfolding frames_of
frames_are bytes = refl

split_ok : (o : Option ℕ) (s : Split) → o ≡ None → shown_split o s ≡ Ok (stream_text s)
split_ok None s e = refl
split_ok (Some code) s e = absurd cc

some_is : (a b : ℕ) → ◌≡◌ {A = Option ℕ} (Some a) (Some b) → a ≡ b
some_is a b e = cc

split_err : (o : Option ℕ) (s : Split) (code : ℕ) → o ≡ Some code → shown_split o s ≡ Err (refusal s.place code)
split_err None s code e = absurd cc
split_err (Some k) s code e = ap (λ (n : ℕ). Err (refusal s.place n)) (some_is k code e)

pub text_shown : (bytes text : List ℕ) (old new : Framing) (before after : List Frame) (rest : ℕ) → old ≡ new_framing → before ≡ []
    → Feeds {A = Unit {0}} (Ok tt) old bytes new before after → rest ≡ rest_of new
    → text ≡ flat_map frame_line after ++ rest_line rest → shown_stream bytes ≡ Ok text
text_shown bytes text old new before after rest begins empty fed count is =
    let s = stands_at bytes in
    let same : new ≡ after_feed bytes new_framing = fed.1 ∙ ap (after_feed bytes) begins in
    let none : fault_of (framed 0 bytes).rest ≡ None = sym s.fault ∙ ap (λ (f : Framing). fault_of f.held) (sym same) ∙ fed.2 in
    let all : after ≡ (framed 0 bytes).frames = fed.3 ∙ ap₂ (λ (l : List Frame) (f : Framing). l ++ frames_of bytes f) empty begins ∙ frames_are bytes in
    let left : rest ≡ length (framed 0 bytes).rest % 2 ^ 64 = count ∙ ap rest_of same ∙ s.rest in
    split_ok (fault_of (framed 0 bytes).rest) (framed 0 bytes) none
    ∙ ap (λ (l : List ℕ). Ok l) (sym (is ∙ ap₂ (λ (l : List Frame) (n : ℕ). flat_map frame_line l ++ rest_line n) all left))

pub fault_shown : (bytes : List ℕ) (old new : Framing) (before after : List Frame) (e : FrameFault) (f : ShowFault)
    → old ≡ new_framing → Feeds {A = Unit {0}} (Err e) old bytes new before after → IsFrameFault e f → IsShownFault f (shown_stream bytes)
fault_shown bytes old new before after (frames.Bad place code) f begins fed is =
    let s = stands_at bytes in
    let same : new ≡ after_feed bytes new_framing = fed.1 ∙ ap (after_feed bytes) begins in
    let some : fault_of (framed 0 bytes).rest ≡ Some code = sym s.fault ∙ ap (λ (g : Framing). fault_of g.held) (sym same) ∙ fed.2 in
    let at : (framed 0 bytes).place ≡ place = sym s.place ∙ ap (λ (g : Framing). g.place) (sym same) ∙ fed.3 in
    subst (λ (g : ShowFault). IsShownFault g (shown_stream bytes)) (sym is)
    (split_err (fault_of (framed 0 bytes).rest) (framed 0 bytes) code some ∙ ap (λ (n : ℕ). Err (refusal n code)) at)
fault_shown bytes old new before after frames.OutOfMemory f begins fed is =
    subst (λ (g : ShowFault). IsShownFault g (shown_stream bytes)) (sym is) tt
