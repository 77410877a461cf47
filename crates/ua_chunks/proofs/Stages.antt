-- What a stage tells of bytes, and what it stays or becomes where more follow.
use Rattle.std.proofs.Common.{◌≡◌, ℕ, ◌-◌, ◌≤◌, ◌<◌, List, ◌++◌, length, take, drop, Option, Some, None, Result, Ok, Err, refl, sym, ap, ◌∙◌, arith, inl, inr, subst}
use Rattle.std.proofs.lemmas.Bool.{cases_lt, lt-ltb, le-ltb}
use Rattle.std.proofs.lemmas.List.{length-append, take-append-le}
use Rattle.byteorder.specs.Endian.{little_number}
use Rattle.ua_chunks.specs.declared.frame.Letters.{Letters}
use Rattle.ua_chunks.specs.declared.frame.Header.{Header}
use Rattle.ua_chunks.specs.declared.frame.Stage.TheVariants as stage
use Rattle.ua_chunks.specs.Frames.{BreaksRule, header_of, judged_header, judged_stage, sized, stage_of, type_of}

whole_same : (g h : Header) → stage.Whole g ≡ stage.Whole h → g ≡ h
whole_same g h e = cc

waits_same : (n m : ℕ) → stage.Waits n ≡ stage.Waits m → n ≡ m
waits_same n m e = cc

breaks_same : (n m : ℕ) → stage.Breaks n ≡ stage.Breaks m → n ≡ m
breaks_same n m e = cc

waits_whole : (n : ℕ) (h : Header) → stage.Waits n ≡ stage.Whole h → ⊥
waits_whole n h e = cc

waits_breaks : (n code : ℕ) → stage.Waits n ≡ stage.Breaks code → ⊥
waits_breaks n code e = cc

whole_breaks : (h : Header) (code : ℕ) → stage.Whole h ≡ stage.Breaks code → ⊥
whole_breaks h code e = cc

pub stage_short : (bytes : List ℕ) → length bytes < 8 → stage_of bytes ≡ stage.Waits (8 - length bytes)
stage_short bytes lt = rw (lt-ltb (length bytes) 8 lt) refl

pub stage_long : (bytes : List ℕ) → 8 ≤ length bytes → stage_of bytes ≡ judged_stage (length bytes) (header_of (take 8 bytes))
stage_long bytes long = rw (le-ltb (length bytes) 8 long) refl

sized_waits : (n : ℕ) (h : Header) → n < h.size → sized n h ≡ stage.Waits (h.size - n)
sized_waits n h lt = rw (lt-ltb n h.size lt) refl

sized_whole : (n : ℕ) (h : Header) → h.size ≤ n → sized n h ≡ stage.Whole h
sized_whole n h le = rw (le-ltb n h.size le) refl

-- ---- what is known at each stage

pub record IsWhole (bytes : List ℕ) (h : Header) : Type 0 where
  pub long : 8 ≤ length bytes
  pub header : header_of (take 8 bytes) ≡ Ok h
  pub within : h.size ≤ length bytes

pub is_whole : (bytes : List ℕ) (h : Header) → IsWhole bytes h → stage_of bytes ≡ stage.Whole h
is_whole bytes h w = stage_long bytes w.long ∙ ap (judged_stage (length bytes)) w.header ∙ sized_whole (length bytes) h w.within

pub is_broken : (bytes : List ℕ) (code : ℕ) → BreaksRule bytes code → stage_of bytes ≡ stage.Breaks code
is_broken bytes code b = stage_long bytes b.long ∙ ap (judged_stage (length bytes)) b.header

whole_by : (bytes : List ℕ) (h : Header) (r : Result Header ℕ) → 8 ≤ length bytes → header_of (take 8 bytes) ≡ r → judged_stage (length bytes) r ≡ stage.Whole h → IsWhole bytes h
whole_by bytes h (Err code) long is e = absurd (whole_breaks h code (sym e))
whole_by bytes h (Ok g) long is e = elim (cases_lt (length bytes) g.size) [
  | inl lt ↦ absurd (waits_whole _ h (sym (sized_waits (length bytes) g lt) ∙ e))
  | inr le ↦
      let same : g ≡ h = whole_same g h (sym (sized_whole (length bytes) g le) ∙ e) in
      record { long = long; header = is ∙ ap (λ (x : Header). Ok x) same; within = subst (λ (x : Header). x.size ≤ length bytes) same le }
]

pub whole_is : (bytes : List ℕ) (h : Header) → stage_of bytes ≡ stage.Whole h → IsWhole bytes h
whole_is bytes h e = elim (cases_lt (length bytes) 8) [
  | inl lt ↦ absurd (waits_whole _ h (sym (stage_short bytes lt) ∙ e))
  | inr le ↦ whole_by bytes h _ le refl (sym (stage_long bytes le) ∙ e)
]

broken_by : (bytes : List ℕ) (code : ℕ) (r : Result Header ℕ) → 8 ≤ length bytes → header_of (take 8 bytes) ≡ r → judged_stage (length bytes) r ≡ stage.Breaks code → BreaksRule bytes code
broken_by bytes code (Err c) long is e = record { long = long; header = is ∙ ap (λ (x : ℕ). Err x) (breaks_same c code e) }
broken_by bytes code (Ok g) long is e = elim (cases_lt (length bytes) g.size) [
  | inl lt ↦ absurd (waits_breaks _ code (sym (sized_waits (length bytes) g lt) ∙ e))
  | inr le ↦ absurd (whole_breaks g code (sym (sized_whole (length bytes) g le) ∙ e))
]

pub broken_is : (bytes : List ℕ) (code : ℕ) → stage_of bytes ≡ stage.Breaks code → BreaksRule bytes code
broken_is bytes code e = elim (cases_lt (length bytes) 8) [
  | inl lt ↦ absurd (waits_breaks _ code (sym (stage_short bytes lt) ∙ e))
  | inr le ↦ broken_by bytes code _ le refl (sym (stage_long bytes le) ∙ e)
]

-- so many bytes are missing of a header, or of a frame
pub record IsShort (bytes : List ℕ) (n : ℕ) (h : Header) : Type 0 where
  pub less : length bytes < h.size
  pub missing : n ≡ h.size - length bytes

pub waits_of : (bytes : List ℕ) (n : ℕ) (h : Header) → stage_of bytes ≡ stage.Waits n → 8 ≤ length bytes → header_of (take 8 bytes) ≡ Ok h → IsShort bytes n h
waits_of bytes n h e long is =
    let e2 : sized (length bytes) h ≡ stage.Waits n = sym (ap (judged_stage (length bytes)) is) ∙ sym (stage_long bytes long) ∙ e in
    elim (cases_lt (length bytes) h.size) [
      | inl lt ↦ record { less = lt; missing = waits_same n (h.size - length bytes) (sym e2 ∙ sized_waits (length bytes) h lt) }
      | inr le ↦ absurd (waits_whole n h (sym e2 ∙ sized_whole (length bytes) h le))
    ]

-- ---- sizes

pub record IsSize (n : ℕ) : Type 0 where
  pub least : 8 ≤ n
  pub most : n ≤ 65536

pub no_header : (code : ℕ) (h : Header) → ◌≡◌ {A = Result Header ℕ} (Err code) (Ok h) → ⊥
no_header code h e = cc

pub same_header : (g h : Header) → ◌≡◌ {A = Result Header ℕ} (Ok g) (Ok h) → g ≡ h
same_header g h e = cc

size_by : (o : Option Letters) (n : ℕ) (h : Header) → judged_header o n ≡ Ok h → IsSize h.size
size_by None n h e = absurd (no_header _ h e)
size_by (Some l) n h e = elim (cases_lt n 8) [
  | inl lt ↦ absurd (no_header 0x80070000 h (sym (rw (lt-ltb n 8 lt) refl) ∙ e))
  | inr le ↦
      elim (cases_lt 65536 n) [
        | inl over ↦ absurd (no_header 0x80800000 h (sym (rw (le-ltb n 8 le, lt-ltb 65536 n over) refl) ∙ e))
        | inr most ↦
            let is : ◌≡◌ {A = Result Header ℕ} (Ok (record { letters = l; size = n })) (Ok h) = sym (rw (le-ltb n 8 le, le-ltb 65536 n most) refl) ∙ e in
            let same : n ≡ h.size = ap (λ (x : Header). x.size) (same_header _ h is) in
            record { least = subst (λ (k : ℕ). 8 ≤ k) same le; most = subst (λ (k : ℕ). k ≤ 65536) same most }
      ]
]

pub size_is : (head : List ℕ) (h : Header) → header_of head ≡ Ok h → IsSize h.size
unfolding header_of
size_is head h e = size_by (type_of (take 4 head)) (little_number 4 (drop 4 head)) h e

-- ---- more bytes behind

head_append : (a b : List ℕ) → 8 ≤ length a → header_of (take 8 (a ++ b)) ≡ header_of (take 8 a)
head_append a b long = ap header_of (take-append-le 8 a b long)

pub whole_append : (a b : List ℕ) (h : Header) → IsWhole a h → IsWhole (a ++ b) h
whole_append a b h w =
    let long = length-append a b in
    record { long = omega (arith, w.long, long); header = head_append a b w.long ∙ w.header; within = omega (arith, w.within, long) }

pub broken_append : (a b : List ℕ) (code : ℕ) → BreaksRule a code → BreaksRule (a ++ b) code
broken_append a b code w =
    let long = length-append a b in record { long = omega (arith, w.long, long); header = head_append a b w.long ∙ w.header }

-- bytes that go no further than what is missing end a frame where they make one whole
pub whole_fits : (held front : List ℕ) (n : ℕ) (h : Header) → stage_of held ≡ stage.Waits n → length front ≤ n → IsWhole (held ++ front) h → length (held ++ front) ≡ h.size
whole_fits held front n h waits fits w =
    let long = length-append held front in
    let size = size_is _ h w.header in
    elim (cases_lt (length held) 8) [
      | inl lt ↦
          let is : n ≡ 8 - length held = waits_same n _ (sym waits ∙ stage_short held lt) in
          omega (arith, long, size.least, w.within)
      | inr le ↦ let short = waits_of held n h waits le (sym (head_append held front le) ∙ w.header) in omega (arith, long, w.within, short.less, short.missing)
    ]

-- and end a header where they make a faulty one
pub broken_fits : (held front : List ℕ) (n code : ℕ) → stage_of held ≡ stage.Waits n → length front ≤ n → BreaksRule (held ++ front) code → length (held ++ front) ≡ 8
broken_fits held front n code waits fits w =
    let long = length-append held front in
    elim (cases_lt (length held) 8) [
      | inl lt ↦
          let is : n ≡ 8 - length held = waits_same n _ (sym waits ∙ stage_short held lt) in
          omega (arith, long, w.long)
      | inr le ↦
          absurd (waits_breaks n code (sym waits ∙ is_broken held code (record { long = le; header = sym (head_append held front le) ∙ w.header })))
    ]

-- what waits has no 65,536 bytes
short_by : (bytes : List ℕ) (n : ℕ) (r : Result Header ℕ) → 8 ≤ length bytes → header_of (take 8 bytes) ≡ r → stage_of bytes ≡ stage.Waits n → length bytes < 65536
short_by bytes n (Err code) long is e = absurd (waits_breaks n code (sym e ∙ is_broken bytes code (record { long = long; header = is })))
short_by bytes n (Ok h) long is e =
    let short = waits_of bytes n h e long is in
    let size = size_is _ h is in
    omega (arith, short.less, size.most)

pub short_is : (bytes : List ℕ) (n : ℕ) → stage_of bytes ≡ stage.Waits n → length bytes < 65536
short_is bytes n e = elim (cases_lt (length bytes) 8) [ inl lt ↦ omega arith | inr le ↦ short_by bytes n _ le refl e ]
