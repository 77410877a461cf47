-- Any pieces one after the other.
use Rattle.std.proofs.Common.{◌≡◌, ℕ, ◌≤◌, List, [], ◌∷◌, ◌++◌, length, take, Option, Some, None, refl, sym, ap, subst, ◌∙◌, arith}
use Rattle.std.proofs.lemmas.List.{append-nil, length-append, length-take}
use Rattle.std.specs.List.{concat}
use Rattle.ua_chunks.specs.declared.frame.Frame.{Frame}
use Rattle.ua_chunks.specs.Frames.{Split, fault_of, framed, moved, unframed}
use Rattle.ua_chunks.specs.Framing.{Brings, Framing, IsBetween, StandsAt, Stays, after_feed, fed, frames_of, given, held_of, holding, new_framing, with_split}
use Rattle.ua_chunks.specs.Streams.{AreFrom, after_frames, all_bytes}
use Rattle.ua_chunks.proofs.Splits.{framed_open}
use Rattle.ua_chunks.proofs.Stages.{broken_append}
use Rattle.ua_chunks.proofs.Written.{frames_again}
use Rattle.ua_chunks.proofs.Pieces.{cut_frames, cut_state, faulty_is, framed_broken, front_broken, is_faulty, nothing_fed, nothing_framed}

nothing_behind : {A : Type 0} (xs ys : List A) → xs ≡ xs ++ ys → ys ≡ []
nothing_behind xs [] e = refl
nothing_behind xs (y ∷ ys) e =
    let same = ap length e in
    let long = length-append xs (y ∷ ys) in
    absurd (omega (arith, same, long))

-- no bytes change nothing, and make no frame
pub record IsFixed (s : Framing) : Type 0 where
  pub state : after_feed [] s ≡ s
  pub frames : frames_of [] s ≡ []

fixed_after : (bytes : List ℕ) (s : Framing) → IsFixed (after_feed bytes s)
fixed_after bytes s = record {
  state = sym (cut_state bytes [] s) ∙ ap (λ (l : List ℕ). after_feed l s) (append-nil bytes);
  frames = nothing_behind (frames_of bytes s) (frames_of [] (after_feed bytes s)) (ap (λ (l : List ℕ). frames_of l s) (sym (append-nil bytes)) ∙ cut_frames bytes [] s);
}

fed_is : (pieces : List (List ℕ)) (s : Framing) → IsFixed s → fed pieces s ≡ after_feed (concat pieces) s
fed_is [] s fixed = sym fixed.state
fed_is (bytes ∷ pieces) s fixed = fed_is pieces (after_feed bytes s) (fixed_after bytes s) ∙ sym (cut_state bytes (concat pieces) s)

given_is : (pieces : List (List ℕ)) (s : Framing) → IsFixed s → given pieces s ≡ frames_of (concat pieces) s
given_is [] s fixed = sym fixed.frames
given_is (bytes ∷ pieces) s fixed =
    ap (λ frames. frames_of bytes s ++ frames) (given_is pieces (after_feed bytes s) (fixed_after bytes s)) ∙ sym (cut_frames bytes (concat pieces) s)

new_fixed : IsFixed new_framing
new_fixed = record { state = nothing_fed new_framing (omega arith, refl); frames = nothing_framed new_framing (omega arith, refl) }

pub all_given : (pieces : List (List ℕ)) → given pieces new_framing ≡ (framed 0 (concat pieces)).frames
unfolding frames_of
all_given pieces = given_is pieces new_framing new_fixed

kept_fault : (o : Option ℕ) (rest : List ℕ) → fault_of rest ≡ o → fault_of (held_of o rest) ≡ o
kept_fault None rest e = e
kept_fault (Some code) rest e = is_faulty (take 8 rest) code (front_broken rest code (faulty_is rest code e))

held_less : (o : Option ℕ) (rest : List ℕ) → length (held_of o rest) ≤ length rest
held_less None rest = omega arith
held_less (Some code) rest = let long = length-take 8 rest in omega (arith, long)

stands_by : (f : Split) → StandsAt f (with_split f new_framing)
stands_by f =
    let less = held_less (fault_of f.rest) f.rest in
    record { place = refl; fault = kept_fault (fault_of f.rest) f.rest refl; rest = omega (arith, less) }

pub stands : (pieces : List (List ℕ)) → StandsAt (framed 0 (concat pieces)) (fed pieces new_framing)
unfolding after_feed
stands pieces = subst (StandsAt (framed 0 (concat pieces))) (sym (fed_is pieces new_framing new_fixed)) (stands_by (framed 0 (concat pieces)))

pub stays : (bytes : List ℕ) (s : Framing) (code : ℕ) → fault_of s.held ≡ Some code → Stays bytes code s
unfolding after_feed frames_of
stays bytes s code e =
    let more = broken_append s.held bytes code (faulty_is s.held code e) in
    let is = framed_broken s.place (s.held ++ bytes) code more in
    let state : after_feed bytes s ≡ with_split (unframed s.place (s.held ++ bytes)) s = ap (λ f. with_split f s) is in
    record {
      fault = ap (λ (t : Framing). fault_of t.held) state ∙ kept_fault (fault_of (s.held ++ bytes)) (s.held ++ bytes) refl ∙ is_faulty (s.held ++ bytes) code more;
      place = ap (λ (t : Framing). t.place) state;
      frames = ap (λ f. f.frames) is;
    }

-- ---- frames fed whole

pub brings : (frames : List Frame) (s : Framing) → IsBetween s → AreFrom s.place frames → Brings frames (all_bytes frames) s
unfolding after_feed frames_of
brings frames s between are =
    let bytes = all_bytes frames in
    let next = moved s.place (length bytes) in
    let split : framed s.place (s.held ++ bytes) ≡ record { frames = frames; place = next; rest = [] } =
    ap (λ (held : List ℕ). framed s.place (held ++ bytes)) between.1
    ∙ ap (framed s.place) (sym (append-nil bytes))
    ∙ frames_again s.place frames [] between.0 are
    ∙ ap (after_frames frames) (framed_open next [] tt)
    ∙ ap (λ fs. record { frames = fs; place = next; rest = [] }) (append-nil frames) in
    let state : holding [] [] next s ≡ record s { place = next } =
    ap (λ (n : ℕ). record { place = next; held = []; missed = n; failed = s.failed }) (let none = between.2 in omega (arith, none))
    ∙ ap (λ (held : List ℕ). record { place = next; held = held; missed = s.missed; failed = s.failed }) (sym between.1) in
    record { frames_are = ap (λ f. f.frames) split; state = ap (λ f. with_split f s) split ∙ state }
