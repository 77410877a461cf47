-- What a framer does with one piece after another.
use Rattle.std.proofs.Common.{◌≡◌, ℕ, ◌+◌, ◌-◌, ◌%◌, ◌^◌, ◌≤◌, ◌<◌, List, [], ◌∷◌, ◌++◌, length, take, drop, Option, Some, None, refl, sym, ap, subst, ◌∙◌, append_assoc, arith}
use Rattle.std.proofs.lemmas.List.{append-nil, length-append, length-take, take-append-le, take_all, drop_all}
use Rattle.ua_chunks.specs.declared.frame.Frame.{Frame}
use Rattle.ua_chunks.specs.declared.frame.Header.{Header}
use Rattle.ua_chunks.specs.declared.frame.Stage.{Stage}
use Rattle.ua_chunks.specs.declared.frame.Stage.TheVariants as stage
use Rattle.ua_chunks.specs.Frames.{BreaksRule, Split, fault_in, fault_of, framed, header_of, moved, stage_of, unframed, with_first}
use Rattle.ua_chunks.specs.Framing.{Awaits, Framing, Gains, IsSettled, IsSettledAt, after_feed, frames_of, held_of, holding, rest_of, split_of, with_split}
use Rattle.ua_chunks.proofs.Stages.{short_is, whole_is, is_broken, broken_append, broken_is, whole_fits, broken_fits}
use Rattle.ua_chunks.proofs.Splits.{IsOpen, cut, framed_open, framed_whole, joined}

some_same : (n m : ℕ) → Some n ≡ Some m → n ≡ m
some_same n m e = cc

broken_at : (s : Stage) (code : ℕ) → fault_in s ≡ Some code → s ≡ stage.Breaks code
broken_at (stage.Waits n) code e = absurd cc
broken_at (stage.Breaks c) code e = ap (λ (n : ℕ). stage.Breaks n) (some_same c code e)
broken_at (stage.Whole h) code e = absurd cc

pub faulty_is : (rest : List ℕ) (code : ℕ) → fault_of rest ≡ Some code → BreaksRule rest code
faulty_is rest code e = broken_is rest code (broken_at (stage_of rest) code e)

pub is_faulty : (rest : List ℕ) (code : ℕ) → BreaksRule rest code → fault_of rest ≡ Some code
is_faulty rest code b = ap fault_in (is_broken rest code b)

-- a fault stays, whatever follows
pub framed_broken : (place : ℕ) (bytes : List ℕ) (code : ℕ) → BreaksRule bytes code → framed place bytes ≡ unframed place bytes
framed_broken place bytes code b = framed_open place bytes (subst IsOpen (sym (is_broken bytes code b)) tt)

-- the header alone is as faulty
pub front_broken : (rest : List ℕ) (code : ℕ) → BreaksRule rest code → BreaksRule (take 8 rest) code
front_broken rest code b =
    let long = length-take 8 rest in
    let same : take 8 (take 8 rest) ≡ take 8 rest = take_all 8 (take 8 rest) (omega (arith, long)) in
    record { long = omega (arith, long, b.long); header = ap header_of same ∙ b.header }

-- ---- two pieces

pub record Cut (f : Split) (b : List ℕ) (s : Framing) : Type 0 where
  pub state : with_split (joined f b) s ≡ with_split (framed f.place (held_of (fault_of f.rest) f.rest ++ b)) (with_split f s)
  pub frames : (joined f b).frames ≡ f.frames ++ (framed f.place (held_of (fault_of f.rest) f.rest ++ b)).frames

missed_none : (missed n m k : ℕ) → (missed + (n - m)) % 2 ^ 64 ≡ ((missed + (k - k)) % 2 ^ 64 + (n - m)) % 2 ^ 64
missed_none missed n m k = omega arith

missed_some : (missed n m k : ℕ) → 8 ≤ n → (missed + (n + m - 8)) % 2 ^ 64 ≡ ((missed + (n - 8)) % 2 ^ 64 + (8 + m - 8)) % 2 ^ 64
missed_some missed n m k le = omega arith

-- of a rest without a fault all bytes are held
cut_none : (f : Split) (b : List ℕ) (s : Framing) → with_split (joined f b) s ≡ with_split (framed f.place (f.rest ++ b)) (holding f.rest f.rest f.place s)
cut_none f b s =
    let g = framed f.place (f.rest ++ b) in
    let held = held_of (fault_of g.rest) g.rest in
    ap (λ (n : ℕ). record { place = g.place; held = held; missed = n; failed = s.failed }) (missed_none s.missed (length g.rest) (length held) (length f.rest))

-- of a faulty one the header
held_broken : (place : ℕ) (rest b : List ℕ) (code : ℕ) (s : Framing) → BreaksRule rest code → with_split (framed place (rest ++ b)) s ≡ holding (take 8 rest) (rest ++ b) place s
held_broken place rest b code s broken =
    let more = broken_append rest b code broken in
    ap (λ f. with_split f s) (framed_broken place (rest ++ b) code more)
    ∙ ap (λ (o : Option ℕ). holding (held_of o (rest ++ b)) (rest ++ b) place s) (is_faulty (rest ++ b) code more)
    ∙ ap (λ (held : List ℕ). holding held (rest ++ b) place s) (take-append-le 8 rest b broken.long)

take_twice : (rest : List ℕ) → take 8 (take 8 rest) ≡ take 8 rest
take_twice rest = let long = length-take 8 rest in take_all 8 (take 8 rest) (omega (arith, long))

cut_some : (f : Split) (b : List ℕ) (s : Framing) (code : ℕ) → BreaksRule f.rest code
    → with_split (joined f b) s ≡ with_split (framed f.place (take 8 f.rest ++ b)) (holding (take 8 f.rest) f.rest f.place s)
cut_some f b s code broken =
    let first = length-append f.rest b in
    let second = length-append (take 8 f.rest) b in
    let eight = length-take 8 f.rest in
    held_broken f.place f.rest b code s broken
    ∙ ap (λ (n : ℕ). record { place = f.place; held = take 8 f.rest; missed = n; failed = s.failed }) (omega (arith, first, second, eight, broken.long))
    ∙ ap (λ (held : List ℕ). holding held (take 8 f.rest ++ b) f.place (holding (take 8 f.rest) f.rest f.place s)) (sym (take_twice f.rest))
    ∙ sym (held_broken f.place (take 8 f.rest) b code (holding (take 8 f.rest) f.rest f.place s) (front_broken f.rest code broken))

cut_by : (o : Option ℕ) (f : Split) (b : List ℕ) (s : Framing) → fault_of f.rest ≡ o → Cut f b s
cut_by None f b s e =
    let held : held_of (fault_of f.rest) f.rest ≡ f.rest = ap (λ o. held_of o f.rest) e in
    record {
      state = subst (λ (held : List ℕ). with_split (joined f b) s ≡ with_split (framed f.place (held ++ b)) (holding held f.rest f.place s)) (sym held) (cut_none f b s);
      frames = subst (λ (held : List ℕ). (joined f b).frames ≡ f.frames ++ (framed f.place (held ++ b)).frames) (sym held) refl;
    }
cut_by (Some code) f b s e =
    let broken = faulty_is f.rest code e in
    let held : held_of (fault_of f.rest) f.rest ≡ take 8 f.rest = ap (λ o. held_of o f.rest) e in
    let none : (framed f.place (f.rest ++ b)).frames ≡ (framed f.place (take 8 f.rest ++ b)).frames = ap (λ g. g.frames) (framed_broken f.place (f.rest ++ b) code (broken_append f.rest b code broken)) ∙ sym (ap (λ g. g.frames) (framed_broken f.place (take 8 f.rest ++ b) code (broken_append (take 8 f.rest) b code (front_broken f.rest code broken)))) in
    record {
      state = subst (λ (held : List ℕ). with_split (joined f b) s ≡ with_split (framed f.place (held ++ b)) (holding held f.rest f.place s)) (sym held) (cut_some f b s code broken);
      frames = subst (λ (held : List ℕ). (joined f b).frames ≡ f.frames ++ (framed f.place (held ++ b)).frames) (sym held) (ap (λ gs. f.frames ++ gs) none);
    }

whole_cut : (a b : List ℕ) (s : Framing) → split_of (a ++ b) s ≡ joined (split_of a s) b
whole_cut a b s = ap (framed s.place) (sym (append_assoc s.held a b)) ∙ cut s.place (s.held ++ a) b

pub cut_state : (a b : List ℕ) (s : Framing) → after_feed (a ++ b) s ≡ after_feed b (after_feed a s)
unfolding after_feed
cut_state a b s = ap (λ f. with_split f s) (whole_cut a b s) ∙ (cut_by (fault_of (split_of a s).rest) (split_of a s) b s refl).state

pub cut_frames : (a b : List ℕ) (s : Framing) → frames_of (a ++ b) s ≡ frames_of a s ++ frames_of b (after_feed a s)
unfolding after_feed frames_of
cut_frames a b s = ap (λ f. f.frames) (whole_cut a b s) ∙ (cut_by (fault_of (split_of a s).rest) (split_of a s) b s refl).frames

-- ---- one call

-- what stands between calls is open, and all of it is held
pub record Rests (s : Framing) : Type 0 where
  pub is_open : IsOpen (stage_of s.held)
  pub held : held_of (fault_of s.held) s.held ≡ s.held

rests_by : (st : Stage) (s : Framing) → stage_of s.held ≡ st → IsSettledAt st s → Rests s
rests_by (stage.Waits n) s e is = record { is_open = subst IsOpen (sym e) tt; held = ap (λ st. held_of (fault_in st) s.held) e }
rests_by (stage.Breaks code) s e is = record { is_open = subst IsOpen (sym e) tt; held = ap (λ st. held_of (fault_in st) s.held) e ∙ take_all 8 s.held (omega arith) }
rests_by (stage.Whole h) s e is = absurd is

pub rests : (s : Framing) → IsSettled s → Rests s
rests s is = rests_by (stage_of s.held) s refl is.1

-- bytes that are held, and are open
pub record Holds (place : ℕ) (bytes : List ℕ) (s : Framing) : Type 0 where
  pub state : with_split (framed place bytes) s ≡ record s { place = place; held = bytes }
  pub frames : (framed place bytes).frames ≡ []

pub holds : (place : ℕ) (bytes : List ℕ) (s : Framing) → IsOpen (stage_of bytes) → held_of (fault_of bytes) bytes ≡ bytes → s.missed < 2 ^ 64 → Holds place bytes s
holds place bytes s is held lt = record {
  state = ap (λ f. with_split f s) (framed_open place bytes is)
      ∙ ap (λ (h : List ℕ). holding h bytes place s) held
      ∙ ap (λ (n : ℕ). record { place = place; held = bytes; missed = n; failed = s.failed }) (omega arith);
  frames = ap (λ f. f.frames) (framed_open place bytes is);
}

-- no bytes change nothing
pub nothing_fed : (s : Framing) → IsSettled s → after_feed [] s ≡ s
unfolding after_feed
nothing_fed s is = let r = rests s is in ap (λ (bytes : List ℕ). with_split (framed s.place bytes) s) (append-nil s.held) ∙ (holds s.place s.held s r.is_open r.held is.0).state

pub nothing_framed : (s : Framing) → IsSettled s → frames_of [] s ≡ []
unfolding frames_of
nothing_framed s is = let r = rests s is in ap (λ (bytes : List ℕ). (framed s.place bytes).frames) (append-nil s.held) ∙ (holds s.place s.held s r.is_open r.held is.0).frames

-- ---- bytes behind a fault

pub record Counts (bytes : List ℕ) (s : Framing) : Type 0 where
  pub state : after_feed bytes s ≡ record s { missed = (s.missed + length bytes) % 2 ^ 64 }
  pub frames : frames_of bytes s ≡ []

counted : (bytes : List ℕ) (s : Framing) (code : ℕ) → BreaksRule s.held code → length s.held ≡ 8 → Counts bytes s
unfolding after_feed frames_of
counted bytes s code broken eight =
    let all : take 8 s.held ≡ s.held = take_all 8 s.held (omega arith) in
    let long = length-append s.held bytes in
    record {
      state = held_broken s.place s.held bytes code s broken
          ∙ ap (λ (held : List ℕ). holding held (s.held ++ bytes) s.place s) all
          ∙ ap (λ (n : ℕ). record { place = s.place; held = s.held; missed = n; failed = s.failed }) (omega (arith, long));
      frames = ap (λ f. f.frames) (framed_broken s.place (s.held ++ bytes) code (broken_append s.held bytes code broken));
    }

counts_by : (st : Stage) (bytes : List ℕ) (s : Framing) → stage_of s.held ≡ st → IsSettledAt st s → ((n : ℕ) → st ≡ stage.Waits n → ⊥) → Counts bytes s
counts_by (stage.Waits n) bytes s e is waits = absurd (waits n refl)
counts_by (stage.Breaks code) bytes s e is waits = counted bytes s code (broken_is s.held code e) is
counts_by (stage.Whole h) bytes s e is waits = absurd is

pub counts : (bytes : List ℕ) (s : Framing) → IsSettled s → ((n : ℕ) → stage_of s.held ≡ stage.Waits n → ⊥) → Counts bytes s
counts bytes s is waits = counts_by (stage_of s.held) bytes s refl is.1 waits

-- ---- bytes up to the end of the header or of the frame

held_by : (st : Stage) (held front : List ℕ) (n : ℕ) → stage_of held ≡ stage.Waits n → length front ≤ n → stage_of (held ++ front) ≡ st → IsOpen st
    → held_of (fault_of (held ++ front)) (held ++ front) ≡ held ++ front
held_by (stage.Waits k) held front n waits fits e is = ap (λ st. held_of (fault_in st) (held ++ front)) e
held_by (stage.Breaks code) held front n waits fits e is =
    let eight = broken_fits held front n code waits fits (broken_is (held ++ front) code e) in
    ap (λ st. held_of (fault_in st) (held ++ front)) e ∙ take_all 8 (held ++ front) (omega arith)
held_by (stage.Whole h) held front n waits fits e is = absurd is

-- so many bytes are awaited
awaits_by : (st : Stage) (count : ℕ) → Awaits count st → (n : ℕ) × (st ≡ stage.Waits n) × (count ≤ n)
awaits_by (stage.Waits n) count is = (n, refl, is)
awaits_by (stage.Breaks code) count is = absurd is
awaits_by (stage.Whole h) count is = absurd is

open_unless : (st : Stage) → ((h : Header) → st ≡ stage.Whole h → ⊥) → IsOpen st
open_unless (stage.Waits n) whole = tt
open_unless (stage.Breaks code) whole = tt
open_unless (stage.Whole h) whole = absurd (whole h refl)

pub record Extends (front : List ℕ) (s : Framing) : Type 0 where
  pub state : after_feed front s ≡ record s { held = s.held ++ front }
  pub frames : frames_of front s ≡ []

pub extends : (front : List ℕ) (s : Framing) → s.missed < 2 ^ 64 → Awaits (length front) (stage_of s.held) → ((h : Header) → stage_of (s.held ++ front) ≡ stage.Whole h → ⊥) → Extends front s
unfolding after_feed frames_of
extends front s lt room whole =
    let waits = awaits_by (stage_of s.held) (length front) room in
    let is = open_unless (stage_of (s.held ++ front)) whole in
    let h = holds s.place (s.held ++ front) s is (held_by (stage_of (s.held ++ front)) s.held front waits.0 waits.1 waits.2 refl is) lt in
    record { state = h.state; frames = h.frames }

pub record Ends (front : List ℕ) (s : Framing) (h : Header) : Type 0 where
  pub state : after_feed front s ≡ record s { place = moved s.place h.size; held = [] }
  pub frames : frames_of front s ≡ record { place = s.place; kind = h.letters.kind; chunk = h.letters.chunk; body = drop 8 (s.held ++ front) } ∷ []

ended_split : (place : ℕ) (bytes : List ℕ) (h : Header) → stage_of bytes ≡ stage.Whole h → length bytes ≡ h.size
    → framed place bytes ≡ with_first (record { place = place; kind = h.letters.kind; chunk = h.letters.chunk; body = drop 8 bytes }) (unframed (moved place h.size) [])
ended_split place bytes h e long =
    framed_whole place bytes h e
    ∙ ap (λ (all : List ℕ). with_first (record { place = place; kind = h.letters.kind; chunk = h.letters.chunk; body = drop 8 all }) (framed (moved place h.size) (drop h.size bytes))) (take_all h.size bytes (omega arith))
    ∙ ap (λ (rest : List ℕ). with_first (record { place = place; kind = h.letters.kind; chunk = h.letters.chunk; body = drop 8 bytes }) (framed (moved place h.size) rest)) (drop_all h.size bytes (omega arith))
    ∙ ap (with_first (record { place = place; kind = h.letters.kind; chunk = h.letters.chunk; body = drop 8 bytes })) (framed_open (moved place h.size) [] tt)

pub ends : (front : List ℕ) (s : Framing) (h : Header) → s.missed < 2 ^ 64 → Awaits (length front) (stage_of s.held) → stage_of (s.held ++ front) ≡ stage.Whole h → Ends front s h
unfolding after_feed frames_of
ends front s h lt room e =
    let waits = awaits_by (stage_of s.held) (length front) room in
    let long = whole_fits s.held front waits.0 h waits.1 waits.2 (whole_is (s.held ++ front) h e) in
    let split = ended_split s.place (s.held ++ front) h e long in
    record {
      state = ap (λ f. with_split f s) split ∙ ap (λ (n : ℕ). record { place = moved s.place h.size; held = []; missed = n; failed = s.failed }) (omega arith);
      frames = ap (λ f. f.frames) split;
    }

-- ---- after a frame

pub none_missed : (s : Framing) → s.held ≡ [] → IsSettled s → s.missed ≡ 0
none_missed s none is = subst (λ (held : List ℕ). IsSettledAt (stage_of held) s) none is.1

-- ---- how much is held

small_by : (st : Stage) (s : Framing) → stage_of s.held ≡ st → IsSettledAt st s → fault_in st ≡ None → rest_of s < 65536
small_by (stage.Waits n) s e is none = let short = short_is s.held n e in omega (arith, short, is)
small_by (stage.Breaks code) s e is none = absurd cc
small_by (stage.Whole h) s e is none = absurd is

pub small : (s : Framing) → IsSettled s → fault_of s.held ≡ None → rest_of s < 65536
small s is none = small_by (stage_of s.held) s refl is.1 none

-- ---- what a list gains

pub gains_none : (all before : List Frame) → Gains all before before all
gains_none all before = record { front = []; after_is = sym (append-nil before); whole = refl }

pub gains_more : (all before mid after left rest : List Frame) → Gains all before mid left → Gains left mid after rest → Gains all before after rest
gains_more all before mid after left rest g h = record {
  front = g.front ++ h.front;
  after_is = h.after_is ∙ ap (λ l. l ++ h.front) g.after_is ∙ append_assoc before g.front h.front;
  whole = g.whole ∙ ap (λ l. g.front ++ l) h.whole ∙ sym (append_assoc g.front h.front rest);
}

pub gains_all : (all before after rest : List Frame) → Gains all before after rest → rest ≡ [] → after ≡ before ++ all
gains_all all before after rest g e =
    g.after_is ∙ ap (λ l. before ++ l) (sym (g.whole ∙ ap (λ l. g.front ++ l) e ∙ append-nil g.front))
