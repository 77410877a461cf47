-- Frames as bytes, both ways.
use Rattle.std.proofs.Common.{◌≡◌, ℕ, zero, suc, ◌+◌, ◌/◌, ◌%◌, ◌^◌, ◌≤◌, ◌<◌, List, [], ◌∷◌, ◌++◌, Bool, true, false, cond, length, take, drop, All, Option, Some, None, Ok, ◌⊎◌, inl, inr, refl, sym, ap, subst, ◌∙◌, append_assoc, arith}
use Rattle.std.proofs.lemmas.Bool.{cases_lt, lt-ltb, le-ltb}
use Rattle.std.proofs.lemmas.List.{append-nil, length-append, length-drop, length-take, take-append-drop, take-take, take_at, drop_at}
use Rattle.std.proofs.lemmas.List.Elements.{All-drop, All-take}
use Rattle.std.proofs.lemmas.Slice.Eq.{bytes_eq-Decides}
use Rattle.std.specs.Str.{bytes_eq}
use Rattle.byteorder.specs.Endian.{little_bytes, little_number}
use Rattle.byteorder.specs.Numbers.{length-bytes_low_first, little_number-reads_back}
use Rattle.ua_chunks.specs.declared.frame.Kind.{Kind}
use Rattle.ua_chunks.specs.declared.frame.Kind.TheVariants as kind
use Rattle.ua_chunks.specs.declared.frame.Chunk.{Chunk}
use Rattle.ua_chunks.specs.declared.frame.Chunk.TheVariants as chunk
use Rattle.ua_chunks.specs.declared.frame.Letters.{Letters}
use Rattle.ua_chunks.specs.declared.frame.Header.{Header}
use Rattle.ua_chunks.specs.declared.frame.Frame.{Frame}
use Rattle.ua_chunks.specs.declared.frame.Stage.{Stage}
use Rattle.ua_chunks.specs.declared.frame.Stage.TheVariants as stage
use Rattle.ua_chunks.specs.Frames.{Split, chunk_of, frame_of, framed, header_of, judged_header, kind_of, letter, letters, moved, of, stage_of, type_of, typed, typed_by, unframed, with_first}
use Rattle.ua_chunks.specs.Streams.{AreFrom, IsFrame, IsFramed, after_frames, all_bytes, frame_bytes}
use Rattle.ua_chunks.proofs.Stages.{IsWhole, is_whole, no_header, same_header, size_is, stage_short, whole_is}
use Rattle.ua_chunks.proofs.Splits.{IsOpen, framed_open, framed_whole}

-- ---- the four letters, read again

abbrev pub IsAllowed : Kind → Chunk → Type 0
IsAllowed k c = (k ≡ kind.Msg) ⊎ (c ≡ chunk.Final)

abbrev pub four : Kind → Chunk → List ℕ
four k c = letters k ++ letter c

one_letter : (c : Chunk) → length (letter c) ≡ 1
one_letter chunk.Final = refl
one_letter chunk.Middle = refl
one_letter chunk.Abort = refl

three_letters : (k : Kind) → length (letters k) ≡ 3
three_letters kind.Hel = refl
three_letters kind.Ack = refl
three_letters kind.Err = refl
three_letters kind.Opn = refl
three_letters kind.Msg = refl
three_letters kind.Clo = refl

pub four_long : (k : Kind) (c : Chunk) → length (four k c) ≡ 4
four_long k c = omega (arith, one_letter c, three_letters k, length-append (letters k) (letter c))

kind_again : (k : Kind) → kind_of (letters k) ≡ Some k
kind_again kind.Hel = refl
kind_again kind.Ack = refl
kind_again kind.Err = refl
kind_again kind.Opn = refl
kind_again kind.Msg = refl
kind_again kind.Clo = refl

chunk_again : (c : Chunk) → chunk_of (letter c) ≡ Some c
chunk_again chunk.Final = refl
chunk_again chunk.Middle = refl
chunk_again chunk.Abort = refl

message_typed : (c : Chunk) → typed kind.Msg c ≡ of kind.Msg c
message_typed c = refl

final_typed : (k : Kind) → typed k chunk.Final ≡ of k chunk.Final
final_typed kind.Hel = refl
final_typed kind.Ack = refl
final_typed kind.Err = refl
final_typed kind.Opn = refl
final_typed kind.Msg = refl
final_typed kind.Clo = refl

typed_again : (k : Kind) (c : Chunk) → IsAllowed k c → typed k c ≡ of k c
typed_again k c (inl is) = subst (λ k. typed k c ≡ of k c) (sym is) (message_typed c)
typed_again k c (inr is) = subst (λ c. typed k c ≡ of k c) (sym is) (final_typed k)

type_again : (k : Kind) (c : Chunk) → IsAllowed k c → type_of (four k c) ≡ of k c
type_again k c allowed =
    ap (λ (l : List ℕ). typed_by (kind_of l) (chunk_of (drop 3 (four k c)))) (take_at (letters k) (letter c) 3 (three_letters k))
    ∙ ap (λ (l : List ℕ). typed_by (kind_of (letters k)) (chunk_of l)) (drop_at (letters k) (letter c) 3 (three_letters k))
    ∙ ap (λ o. typed_by o (chunk_of (letter c))) (kind_again k)
    ∙ ap (λ o. typed_by (Some k) o) (chunk_again c)
    ∙ typed_again k c allowed

judged_good : (l : Letters) (n : ℕ) → 8 ≤ n → n ≤ 65536 → judged_header (Some l) n ≡ Ok (record { letters = l; size = n })
judged_good l n least most = rw (le-ltb n 8 least, le-ltb 65536 n most) refl

size_again : (n : ℕ) → n < 2 ^ 32 → little_number 4 (little_bytes 4 n) ≡ n
size_again n lt = ap (little_number 4) (sym (append-nil (little_bytes 4 n))) ∙ little_number-reads_back 4 n [] (omega arith)

header_again : (k : Kind) (c : Chunk) (n : ℕ) → IsAllowed k c → 8 ≤ n → n ≤ 65536
    → header_of (four k c ++ little_bytes 4 n) ≡ Ok (record { letters = record { kind = k; chunk = c }; size = n })
unfolding header_of
header_again k c n allowed least most =
    rw (take_at (four k c) (little_bytes 4 n) 4 (four_long k c), drop_at (four k c) (little_bytes 4 n) 4 (four_long k c), type_again k c allowed, size_again n (omega arith))
    (judged_good (record { kind = k; chunk = c }) n least most)

-- ---- a frame, read again

abbrev pub header_in : Frame → Header
header_in f = record { letters = record { kind = f.kind; chunk = f.chunk }; size = 8 + length f.body }

head_long : (f : Frame) → length (four f.kind f.chunk ++ little_bytes 4 (8 + length f.body)) ≡ 8
head_long f =
    let size : length (little_bytes 4 (8 + length f.body)) ≡ 4 = length-bytes_low_first 0 4 (8 + length f.body) in
    omega (arith, four_long f.kind f.chunk, size, length-append (four f.kind f.chunk) (little_bytes 4 (8 + length f.body)))

pub frame_long : (f : Frame) → length (frame_bytes f) ≡ 8 + length f.body
frame_long f = omega (arith, head_long f, length-append (four f.kind f.chunk ++ little_bytes 4 (8 + length f.body)) f.body)

whole_again : (f : Frame) (more : List ℕ) → IsFrame f → IsWhole (frame_bytes f ++ more) (header_in f)
whole_again f more is =
    let long = frame_long f in
    let all = length-append (frame_bytes f) more in
    let head = four f.kind f.chunk ++ little_bytes 4 (8 + length f.body) in
    let front : take 8 (frame_bytes f ++ more) ≡ head = ap (take 8) (append_assoc head f.body more) ∙ take_at head (f.body ++ more) 8 (head_long f) in
    record {
      long = omega (arith, long, all);
      header = ap header_of front ∙ header_again f.kind f.chunk (8 + length f.body) is.chunk (omega arith) is.size;
      within = omega (arith, long, all);
    }

body_again : (f : Frame) → drop 8 (frame_bytes f) ≡ f.body
body_again f = drop_at (four f.kind f.chunk ++ little_bytes 4 (8 + length f.body)) f.body 8 (head_long f)

-- what was written as a frame is read as this frame, whatever follows
pub frame_again : (place : ℕ) (f : Frame) (more : List ℕ) → IsFrame f → f.place ≡ place
    → framed place (frame_bytes f ++ more) ≡ with_first f (framed (moved place (8 + length f.body)) more)
frame_again place f more is at =
    let w = whole_again f more is in
    let front = take_at (frame_bytes f) more (8 + length f.body) (frame_long f) in
    let body : drop 8 (take (8 + length f.body) (frame_bytes f ++ more)) ≡ f.body = ap (drop 8) front ∙ body_again f in
    let rest = drop_at (frame_bytes f) more (8 + length f.body) (frame_long f) in
    framed_whole place (frame_bytes f ++ more) (header_in f) (is_whole (frame_bytes f ++ more) (header_in f) w)
    ∙ ap (λ (body : List ℕ). with_first (record { place = place; kind = f.kind; chunk = f.chunk; body = body }) (framed (moved place (8 + length f.body)) (drop (8 + length f.body) (frame_bytes f ++ more)))) body
    ∙ ap (λ (p : ℕ). with_first (record { place = p; kind = f.kind; chunk = f.chunk; body = f.body }) (framed (moved place (8 + length f.body)) (drop (8 + length f.body) (frame_bytes f ++ more)))) (sym at)
    ∙ ap (λ (bytes : List ℕ). with_first f (framed (moved place (8 + length f.body)) bytes)) rest

moved_twice : (place n m : ℕ) → moved (moved place n) m ≡ moved place (n + m)
moved_twice place n m = omega arith

pub frames_again : (place : ℕ) (frames : List Frame) (more : List ℕ) → place < 2 ^ 64 → AreFrom place frames
    → framed place (all_bytes frames ++ more) ≡ after_frames frames (framed (moved place (length (all_bytes frames))) more)
frames_again place [] more lt are = ap (λ (p : ℕ). framed p more) (omega arith)
frames_again place (f ∷ frames) more lt are =
    let next = moved place (8 + length f.body) in
    let places : moved next (length (all_bytes frames)) ≡ moved place (length (all_bytes (f ∷ frames))) = omega (arith, frame_long f, length-append (frame_bytes f) (all_bytes frames)) in
    ap (framed place) (append_assoc (frame_bytes f) (all_bytes frames) more)
    ∙ frame_again place f (all_bytes frames ++ more) are.0 are.1
    ∙ ap (with_first f) (frames_again next frames more (omega arith) are.2)
    ∙ ap (λ (p : ℕ). with_first f (after_frames frames (framed p more))) places

-- ---- the four letters of what was read

pub record IsType (bytes : List ℕ) (l : Letters) : Type 0 where
  pub spelled : bytes ≡ four l.kind l.chunk
  pub allowed : IsAllowed l.kind l.chunk

some_is : {A : Type 0} (x y : A) → Some x ≡ Some y → x ≡ y
some_is x y e = cc

same_bytes : (xs ys : List ℕ) → bytes_eq xs ys ≡ true → xs ≡ ys
same_bytes xs ys e = (bytes_eq-Decides xs ys).0 e

-- one of several spellings, and the others
one_by : {A : Type 0} (spells : A → List ℕ) (b : Bool) (bytes : List ℕ) (a : A) (other : Option A) (x : A)
    → (b ≡ true → bytes ≡ spells a) → (other ≡ Some x → bytes ≡ spells x) → cond b (Some a) other ≡ Some x → bytes ≡ spells x
one_by spells true bytes a other x is others e = is refl ∙ ap spells (some_is a x e)
one_by spells false bytes a other x is others e = others e

kind_is : (three : List ℕ) (k : Kind) → kind_of three ≡ Some k → three ≡ letters k
kind_is three k e =
    one_by letters _ three kind.Hel _ k (same_bytes three (letters kind.Hel))
    (one_by letters _ three kind.Ack _ k (same_bytes three (letters kind.Ack))
    (one_by letters _ three kind.Err _ k (same_bytes three (letters kind.Err))
    (one_by letters _ three kind.Opn _ k (same_bytes three (letters kind.Opn))
    (one_by letters _ three kind.Msg _ k (same_bytes three (letters kind.Msg))
    (one_by letters _ three kind.Clo None k (same_bytes three (letters kind.Clo)) (λ none. absurd cc))))))
    e

chunk_is : (one : List ℕ) (c : Chunk) → chunk_of one ≡ Some c → one ≡ letter c
chunk_is one c e =
    one_by letter _ one chunk.Final _ c (same_bytes one (letter chunk.Final))
    (one_by letter _ one chunk.Middle _ c (same_bytes one (letter chunk.Middle))
    (one_by letter _ one chunk.Abort None c (same_bytes one (letter chunk.Abort)) (λ none. absurd cc)))
    e

-- what is typed has these letters
pub record IsTyped (k : Kind) (c : Chunk) (l : Letters) : Type 0 where
  pub same : record { kind = k; chunk = c } ≡ l
  pub allowed : IsAllowed k c

final_only : (k : Kind) (c : Chunk) (l : Letters) → (k ≡ kind.Msg → ⊥) → typed k c ≡ Some l → IsTyped k c l
final_only kind.Msg c l other e = absurd (other refl)
final_only kind.Hel chunk.Final l other e = record { same = some_is _ l e; allowed = inr refl }
final_only kind.Ack chunk.Final l other e = record { same = some_is _ l e; allowed = inr refl }
final_only kind.Err chunk.Final l other e = record { same = some_is _ l e; allowed = inr refl }
final_only kind.Opn chunk.Final l other e = record { same = some_is _ l e; allowed = inr refl }
final_only kind.Clo chunk.Final l other e = record { same = some_is _ l e; allowed = inr refl }
final_only kind.Hel chunk.Middle l other e = absurd cc
final_only kind.Ack chunk.Middle l other e = absurd cc
final_only kind.Err chunk.Middle l other e = absurd cc
final_only kind.Opn chunk.Middle l other e = absurd cc
final_only kind.Clo chunk.Middle l other e = absurd cc
final_only kind.Hel chunk.Abort l other e = absurd cc
final_only kind.Ack chunk.Abort l other e = absurd cc
final_only kind.Err chunk.Abort l other e = absurd cc
final_only kind.Opn chunk.Abort l other e = absurd cc
final_only kind.Clo chunk.Abort l other e = absurd cc

typed_is : (k : Kind) (c : Chunk) (l : Letters) → typed k c ≡ Some l → IsTyped k c l
typed_is kind.Msg c l e = record { same = some_is _ l e; allowed = inl refl }
typed_is kind.Hel c l e = final_only kind.Hel c l (λ is. cc) e
typed_is kind.Ack c l e = final_only kind.Ack c l (λ is. cc) e
typed_is kind.Err c l e = final_only kind.Err c l (λ is. cc) e
typed_is kind.Opn c l e = final_only kind.Opn c l (λ is. cc) e
typed_is kind.Clo c l e = final_only kind.Clo c l (λ is. cc) e

type_by : (o : Option Kind) (p : Option Chunk) (bytes : List ℕ) (l : Letters) → kind_of (take 3 bytes) ≡ o → chunk_of (drop 3 bytes) ≡ p
    → typed_by o p ≡ Some l → IsType bytes l
type_by None p bytes l ek ec e = absurd cc
type_by (Some k) None bytes l ek ec e = absurd cc
type_by (Some k) (Some c) bytes l ek ec e =
    let t = typed_is k c l e in
    subst (IsType bytes) t.same (record {
      spelled = sym (take-append-drop 3 bytes) ∙ ap (λ (x : List ℕ). x ++ drop 3 bytes) (kind_is (take 3 bytes) k ek) ∙ ap (λ (x : List ℕ). letters k ++ x) (chunk_is (drop 3 bytes) c ec);
      allowed = t.allowed;
    })

type_is : (bytes : List ℕ) (l : Letters) → type_of bytes ≡ Some l → IsType bytes l
type_is bytes l e = type_by (kind_of (take 3 bytes)) (chunk_of (drop 3 bytes)) bytes l refl refl e

-- ---- the size of what was read

four_bytes : (size : List ℕ) → length size ≡ 4 → All (λ byte. byte < 256) size → little_bytes 4 (little_number 4 size) ≡ size
four_bytes (a ∷ b ∷ c ∷ d ∷ []) long each =
    let la : a < 256 = each 0 0 (omega arith) in
    let lb : b < 256 = each 1 0 (omega arith) in
    let lc : c < 256 = each 2 0 (omega arith) in
    let ld : d < 256 = each 3 0 (omega arith) in
    let n = little_number 4 (a ∷ b ∷ c ∷ d ∷ []) in
    let first : n % 256 ≡ a = omega arith in
    let second : n / 256 % 256 ≡ b = omega arith in
    let third : n / 65536 % 256 ≡ c = omega arith in
    let fourth : n / 16777216 % 256 ≡ d = omega arith in
    rw (first, second, third, fourth) refl
four_bytes [] long each = absurd (omega arith)
four_bytes (a ∷ []) long each = absurd (omega arith)
four_bytes (a ∷ b ∷ []) long each = absurd (omega arith)
four_bytes (a ∷ b ∷ c ∷ []) long each = absurd (omega arith)
four_bytes (a ∷ b ∷ c ∷ d ∷ e ∷ more) long each = absurd (omega arith)

-- ---- a header that was read

pub record IsHead (head : List ℕ) (h : Header) : Type 0 where
  pub spelled : head ≡ four h.letters.kind h.letters.chunk ++ little_bytes 4 h.size
  pub allowed : IsAllowed h.letters.kind h.letters.chunk
  pub size : h.size ≤ 65536

some_header : (o : Option Letters) (n : ℕ) (h : Header) → judged_header o n ≡ Ok h → (o ≡ Some h.letters) × (n ≡ h.size)
some_header None n h e = absurd cc
some_header (Some l) n h e = elim (cases_lt n 8) [
  | inl lt ↦ absurd (no_header 0x80070000 h (sym (rw (lt-ltb n 8 lt) refl) ∙ e))
  | inr le ↦
      elim (cases_lt 65536 n) [
        | inl over ↦ absurd (no_header 0x80800000 h (sym (rw (le-ltb n 8 le, lt-ltb 65536 n over) refl) ∙ e))
        | inr most ↦
            let same = same_header (record { letters = l; size = n }) h (sym (judged_good l n le most) ∙ e) in
            (ap (λ (x : Header). Some x.letters) same, ap (λ (x : Header). x.size) same)
      ]
]

head_is : (head : List ℕ) (h : Header) → length head ≡ 8 → All (λ byte. byte < 256) head → header_of head ≡ Ok h → IsHead head h
unfolding header_of
head_is head h long each e =
    let parts = some_header (type_of (take 4 head)) (little_number 4 (drop 4 head)) h e in
    let is = type_is (take 4 head) h.letters parts.0 in
    let back = length-drop 4 head in
    let size : little_bytes 4 h.size ≡ drop 4 head = ap (little_bytes 4) (sym parts.1) ∙ four_bytes (drop 4 head) (omega (arith, back)) (All-drop (λ byte. byte < 256) 4 head each) in
    record {
      spelled = sym (take-append-drop 4 head) ∙ ap (λ (l : List ℕ). l ++ drop 4 head) is.spelled ∙ ap (λ (l : List ℕ). four h.letters.kind h.letters.chunk ++ l) (sym size);
      allowed = is.allowed;
      size = (size_is head h e).most;
    }

-- ---- a frame that was read

pub record IsRead (place : ℕ) (bytes : List ℕ) (h : Header) : Type 0 where
  pub frame : IsFrame (frame_of place h bytes)
  pub size : 8 + length (frame_of place h bytes).body ≡ h.size
  pub whole : bytes ≡ frame_bytes (frame_of place h bytes) ++ drop h.size bytes

frame_read : (place : ℕ) (bytes : List ℕ) (h : Header) → All (λ byte. byte < 256) bytes → IsWhole bytes h → IsRead place bytes h
frame_read place bytes h each w =
    let size = size_is _ h w.header in
    let cut = length-take h.size bytes in
    let less = length-drop 8 (take h.size bytes) in
    let long : 8 + length (drop 8 (take h.size bytes)) ≡ h.size = omega (arith, cut, less, size.least, w.within) in
    let eight = length-take 8 bytes in
    let head = head_is (take 8 bytes) h (omega (arith, eight, w.long)) (All-take (λ byte. byte < 256) 8 bytes each) w.header in
    let same : take 8 (take h.size bytes) ≡ take 8 bytes = take-take 8 h.size bytes size.least in
    let front : take h.size bytes ≡ frame_bytes (frame_of place h bytes) =
    sym (take-append-drop 8 (take h.size bytes))
    ∙ ap (λ (l : List ℕ). l ++ drop 8 (take h.size bytes)) (same ∙ head.spelled)
    ∙ ap (λ (n : ℕ). four h.letters.kind h.letters.chunk ++ little_bytes 4 n ++ drop 8 (take h.size bytes)) (sym long) in
    record {
      frame = record { chunk = head.allowed; size = omega (arith, long, size.most) };
      size = long;
      whole = sym (take-append-drop h.size bytes) ∙ ap (λ (l : List ℕ). l ++ drop h.size bytes) front;
    }

-- ---- all frames of bytes

abbrev pub AreBytes : List ℕ → Type 0
AreBytes bytes = All (λ byte. byte < 256) bytes

begins_whole : (f : Frame) (bytes more : List ℕ) → IsFrame f → bytes ≡ frame_bytes f ++ more → stage_of bytes ≡ stage.Whole (header_in f)
begins_whole f bytes more is e = ap stage_of e ∙ is_whole (frame_bytes f ++ more) (header_in f) (whole_again f more is)

not_open : (h : Header) (bytes : List ℕ) → stage_of bytes ≡ stage.Whole h → IsOpen (stage_of bytes) → ⊥
not_open h bytes e is = subst IsOpen e is

unframed_is : (place : ℕ) (bytes : List ℕ) → place < 2 ^ 64 → IsOpen (stage_of bytes) → IsFramed place bytes (unframed place bytes)
unframed_is place bytes lt is = record {
  frames = tt;
  whole = refl;
  place_is = omega arith;
  longest = λ f more frame e. not_open (header_in f) bytes (begins_whole f bytes more frame e) is;
}

first_is : (place : ℕ) (bytes : List ℕ) (h : Header) (s : Split) → IsRead place bytes h → IsFramed (moved place h.size) (drop h.size bytes) s → IsFramed place bytes (with_first (frame_of place h bytes) s)
first_is place bytes h s r others =
    let f = frame_of place h bytes in
    let long = frame_long f in
    let more = length-append (frame_bytes f) (all_bytes s.frames) in
    record {
      frames = (r.frame, refl, subst (λ (n : ℕ). AreFrom (moved place n) s.frames) (sym r.size) others.frames);
      whole = r.whole ∙ ap (λ (l : List ℕ). frame_bytes f ++ l) others.whole ∙ sym (append_assoc (frame_bytes f) (all_bytes s.frames) s.rest);
      place_is = others.place_is ∙ omega (arith, long, more, r.size);
      longest = others.longest;
    }

is_framed_by : (st : Stage) (n place : ℕ) (bytes : List ℕ) → stage_of bytes ≡ st → length bytes ≤ suc n → place < 2 ^ 64 → AreBytes bytes
    → ((p : ℕ) (more : List ℕ) → length more ≤ n → p < 2 ^ 64 → AreBytes more → IsFramed p more (framed p more))
    → IsFramed place bytes (framed place bytes)
is_framed_by (stage.Waits k) n place bytes e le lt each others =
    let is = subst IsOpen (sym e) tt in subst (IsFramed place bytes) (sym (framed_open place bytes is)) (unframed_is place bytes lt is)
is_framed_by (stage.Breaks code) n place bytes e le lt each others =
    let is = subst IsOpen (sym e) tt in subst (IsFramed place bytes) (sym (framed_open place bytes is)) (unframed_is place bytes lt is)
is_framed_by (stage.Whole h) n place bytes e le lt each others =
    let w = whole_is bytes h e in
    let size = size_is _ h w.header in
    let less = length-drop h.size bytes in
    let r = frame_read place bytes h each w in
    subst (IsFramed place bytes) (sym (framed_whole place bytes h e))
    (first_is place bytes h _ r (others (moved place h.size) (drop h.size bytes) (omega (arith, size.least, less)) (omega arith) (All-drop (λ byte. byte < 256) h.size bytes each)))

is_framed_up_to : (n place : ℕ) (bytes : List ℕ) → length bytes ≤ n → place < 2 ^ 64 → AreBytes bytes → IsFramed place bytes (framed place bytes)
is_framed_up_to zero place bytes le lt each =
    let is = subst IsOpen (sym (stage_short bytes (omega arith))) tt in subst (IsFramed place bytes) (sym (framed_open place bytes is)) (unframed_is place bytes lt is)
is_framed_up_to (suc n) place bytes le lt each = is_framed_by (stage_of bytes) n place bytes refl le lt each (λ p more less fits bytes. is_framed_up_to n p more less fits bytes)

pub is_framed : (place : ℕ) (bytes : List ℕ) → place < 2 ^ 64 → AreBytes bytes → IsFramed place bytes (framed place bytes)
is_framed place bytes lt each = is_framed_up_to (length bytes) place bytes (omega arith) lt each

-- ---- no other list is so

open_by_longest : (st : Stage) (place : ℕ) (rest : List ℕ) → stage_of rest ≡ st → AreBytes rest
    → ((f : Frame) (more : List ℕ) → IsFrame f → rest ≡ frame_bytes f ++ more → ⊥) → IsOpen st
open_by_longest (stage.Waits n) place rest e each longest = tt
open_by_longest (stage.Breaks code) place rest e each longest = tt
open_by_longest (stage.Whole h) place rest e each longest =
    let r = frame_read place rest h each (whole_is rest h e) in longest (frame_of place h rest) (drop h.size rest) r.frame r.whole

abbrev split : List Frame → ℕ → List ℕ → Split
split frames place rest = record { frames = frames; place = place; rest = rest }

only_by : (frames : List Frame) (place end : ℕ) (bytes rest : List ℕ) → place < 2 ^ 64 → AreBytes bytes → IsFramed place bytes (split frames end rest) → split frames end rest ≡ framed place bytes
only_by [] place end bytes rest lt each is =
    let same : bytes ≡ rest = is.whole in
    let at : end ≡ place = is.place_is ∙ omega arith in
    let open_rest = open_by_longest (stage_of rest) place rest refl (subst AreBytes same each) is.longest in
    ap (λ (p : ℕ). split [] p rest) at ∙ sym (framed_open place rest open_rest) ∙ ap (framed place) (sym same)
only_by (f ∷ frames) place end bytes rest lt each is =
    let next = moved place (8 + length f.body) in
    let long = frame_long f in
    let more = length-append (frame_bytes f) (all_bytes frames) in
    let whole : bytes ≡ frame_bytes f ++ (all_bytes frames ++ rest) = is.whole ∙ append_assoc (frame_bytes f) (all_bytes frames) rest in
    let behind : drop (8 + length f.body) bytes ≡ all_bytes frames ++ rest = ap (drop (8 + length f.body)) whole ∙ drop_at (frame_bytes f) (all_bytes frames ++ rest) (8 + length f.body) long in
    let others : IsFramed next (all_bytes frames ++ rest) (split frames end rest) = record {
      frames = is.frames.2;
      whole = refl;
      place_is = is.place_is ∙ omega (arith, long, more);
      longest = is.longest;
    } in
    let same = only_by frames next end (all_bytes frames ++ rest) rest (omega arith) (subst AreBytes behind (All-drop (λ byte. byte < 256) (8 + length f.body) bytes each)) others in
    ap (with_first f) same ∙ sym (frame_again place f (all_bytes frames ++ rest) is.frames.0 is.frames.1) ∙ ap (framed place) (sym whole)

pub only : (place : ℕ) (bytes : List ℕ) (s : Split) → place < 2 ^ 64 → AreBytes bytes → IsFramed place bytes s → s ≡ framed place bytes
only place bytes s lt each is = only_by s.frames place s.place bytes s.rest lt each is
