-- The frames of bytes, one after the other, and of bytes that come in two pieces.
use Rattle.std.proofs.Common.{◌≡◌, ℕ, zero, suc, ◌≤◌, List, [], ◌∷◌, ◌++◌, length, drop, refl, sym, ap, subst, ◌∙◌, arith}
use Rattle.std.proofs.lemmas.List.{length-drop, take-append-le, drop-append-le}
use Rattle.ua_chunks.specs.declared.frame.Header.{Header}
use Rattle.ua_chunks.specs.declared.frame.Stage.{Stage}
use Rattle.ua_chunks.specs.declared.frame.Stage.TheVariants as stage
use Rattle.ua_chunks.specs.Frames.{Split, frame_of, framed, framed_by, framed_up_to, moved, stage_of, unframed, with_first}
use Rattle.ua_chunks.specs.Streams.{after_frames}
use Rattle.ua_chunks.proofs.Stages.{is_whole, size_is, stage_short, whole_append, whole_is}

-- the bytes begin with no whole frame
abbrev pub IsOpen : Stage → Type 0
IsOpen (stage.Waits n) = Unit {0}
IsOpen (stage.Breaks code) = Unit {0}
IsOpen (stage.Whole h) = ⊥

open_by : (s : Stage) (others : ℕ → List ℕ → Split) (place : ℕ) (bytes : List ℕ) → IsOpen s → framed_by s others place bytes ≡ unframed place bytes
open_by (stage.Waits n) others place bytes is = refl
open_by (stage.Breaks code) others place bytes is = refl
open_by (stage.Whole h) others place bytes is = absurd is

-- no more frames than bytes
enough_by : (s : Stage) (n m place : ℕ) (bytes : List ℕ) → stage_of bytes ≡ s → length bytes ≤ suc n → length bytes ≤ suc m
    → ((p : ℕ) (more : List ℕ) → length more ≤ n → length more ≤ m → framed_up_to n p more ≡ framed_up_to m p more)
    → framed_by s (framed_up_to n) place bytes ≡ framed_by s (framed_up_to m) place bytes
enough_by (stage.Waits k) n m place bytes is ln lm others = refl
enough_by (stage.Breaks code) n m place bytes is ln lm others = refl
enough_by (stage.Whole h) n m place bytes is ln lm others =
    let w = whole_is bytes h is in
    let size = size_is _ h w.header in
    let long = length-drop h.size bytes in
    ap (with_first (frame_of place h bytes)) (others (moved place h.size) (drop h.size bytes) (omega (arith, size.least, long)) (omega (arith, size.least, long)))

none_by : (n place : ℕ) (bytes : List ℕ) → length bytes ≤ 0 → framed_by (stage_of bytes) (framed_up_to n) place bytes ≡ unframed place bytes
none_by n place bytes le = ap (λ s. framed_by s (framed_up_to n) place bytes) (stage_short bytes (omega arith))

enough : (n m place : ℕ) (bytes : List ℕ) → length bytes ≤ n → length bytes ≤ m → framed_up_to n place bytes ≡ framed_up_to m place bytes
enough zero zero place bytes ln lm = refl
enough zero (suc m) place bytes ln lm = sym (none_by m place bytes ln)
enough (suc n) zero place bytes ln lm = none_by n place bytes lm
enough (suc n) (suc m) place bytes ln lm = enough_by (stage_of bytes) n m place bytes refl ln lm (enough n m)

-- ---- the first frame, or none

pub framed_open : (place : ℕ) (bytes : List ℕ) → IsOpen (stage_of bytes) → framed place bytes ≡ unframed place bytes
unfolding framed
framed_open place [] is = refl
framed_open place (b ∷ bytes) is = open_by (stage_of (b ∷ bytes)) (framed_up_to (length bytes)) place (b ∷ bytes) is

pub framed_whole : (place : ℕ) (bytes : List ℕ) (h : Header) → stage_of bytes ≡ stage.Whole h
    → framed place bytes ≡ with_first (frame_of place h bytes) (framed (moved place h.size) (drop h.size bytes))
unfolding framed
framed_whole place [] h is = absurd cc
framed_whole place (b ∷ bytes) h is =
    let w = whole_is (b ∷ bytes) h is in
    let size = size_is _ h w.header in
    let long = length-drop h.size (b ∷ bytes) in
    ap (λ s. framed_by s (framed_up_to (length bytes)) place (b ∷ bytes)) is
    ∙ ap (with_first (frame_of place h (b ∷ bytes))) (enough (length bytes) (length (drop h.size (b ∷ bytes))) (moved place h.size) (drop h.size (b ∷ bytes)) (omega (arith, size.least, long)) (omega arith))

-- ---- two pieces

abbrev pub joined : Split → List ℕ → Split
joined s more = after_frames s.frames (framed s.place (s.rest ++ more))

cut_open : (place : ℕ) (a b : List ℕ) → IsOpen (stage_of a) → framed place (a ++ b) ≡ joined (framed place a) b
cut_open place a b is = ap (λ s. joined s b) (sym (framed_open place a is))

cut_whole : (place : ℕ) (a b : List ℕ) (h : Header) → stage_of a ≡ stage.Whole h
    → framed (moved place h.size) (drop h.size a ++ b) ≡ joined (framed (moved place h.size) (drop h.size a)) b
    → framed place (a ++ b) ≡ joined (framed place a) b
cut_whole place a b h is others =
    let w = whole_is a h is in
    let body : frame_of place h (a ++ b) ≡ frame_of place h a = ap (λ (bytes : List ℕ). record { place = place; kind = h.letters.kind; chunk = h.letters.chunk; body = drop 8 bytes }) (take-append-le h.size a b w.within) in
    framed_whole place (a ++ b) h (is_whole (a ++ b) h (whole_append a b h w))
    ∙ ap (λ f. with_first f (framed (moved place h.size) (drop h.size (a ++ b)))) body
    ∙ ap (λ (bytes : List ℕ). with_first (frame_of place h a) (framed (moved place h.size) bytes)) (drop-append-le h.size a b w.within)
    ∙ ap (with_first (frame_of place h a)) others
    ∙ ap (λ s. joined s b) (sym (framed_whole place a h is))

cut_by : (s : Stage) (n place : ℕ) (a b : List ℕ) → stage_of a ≡ s → length a ≤ suc n
    → ((p : ℕ) (more : List ℕ) → length more ≤ n → framed p (more ++ b) ≡ joined (framed p more) b)
    → framed place (a ++ b) ≡ joined (framed place a) b
cut_by (stage.Waits k) n place a b is le others = cut_open place a b (subst IsOpen (sym is) tt)
cut_by (stage.Breaks code) n place a b is le others = cut_open place a b (subst IsOpen (sym is) tt)
cut_by (stage.Whole h) n place a b is le others =
    let w = whole_is a h is in
    let size = size_is _ h w.header in
    let long = length-drop h.size a in
    cut_whole place a b h is (others (moved place h.size) (drop h.size a) (omega (arith, size.least, long)))

cut_up_to : (n place : ℕ) (a b : List ℕ) → length a ≤ n → framed place (a ++ b) ≡ joined (framed place a) b
cut_up_to zero place a b le = cut_open place a b (subst IsOpen (sym (stage_short a (omega arith))) tt)
cut_up_to (suc n) place a b le = cut_by (stage_of a) n place a b refl le (λ p more less. cut_up_to n p more b less)

-- bytes that come in two pieces
pub cut : (place : ℕ) (a b : List ℕ) → framed place (a ++ b) ≡ joined (framed place a) b
cut place a b = cut_up_to (length a) place a b (omega arith)
