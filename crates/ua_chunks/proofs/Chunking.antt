-- A message's chunks, one after the other.
use Rattle.std.proofs.Common.{◌≡◌, ℕ, zero, suc, ◌+◌, ◌-◌, ◌^◌, ◌==◌, ◌≤◌, ◌<◌, Bool, true, false, cond, List, [], ◌∷◌, ◌++◌, length, take, drop, refl, sym, ap, ◌∙◌, append_assoc, arith, inl, inr}
use Rattle.std.proofs.lemmas.Bool.{cases_lt, lt-ltb, le-ltb}
use Rattle.std.proofs.lemmas.Bool.Decides.{nat_tests}
use Rattle.std.proofs.lemmas.List.{append-nil, length-append, length-drop}
use Rattle.byteorder.specs.Endian.{little_bytes}
use Rattle.byteorder.specs.Numbers.{length-bytes_low_first}
use Rattle.ua_base.specs.Number.{after_chunk}
use Rattle.ua_chunks.specs.declared.frame.Kind.{Kind}
use Rattle.ua_chunks.specs.declared.frame.Chunk.{Chunk}
use Rattle.ua_chunks.specs.declared.frame.Chunk.TheVariants as chunk
use Rattle.ua_chunks.specs.Streams.{start_bytes}
use Rattle.ua_chunks.specs.Sending.{Sending, after_parts, message_parts, part, part_bytes, parts_bytes, parts_up_to, in_chunk, stepped, written_head}

pub head_long : (request : ℕ) (s : Sending) → length (written_head request s) ≡ 16
head_long request s =
    let a = length-bytes_low_first 0 4 s.channel in
    let b = length-bytes_low_first 0 4 s.token in
    let c = length-bytes_low_first 0 4 s.next in
    let d = length-bytes_low_first 0 4 request in
    omega (
      arith,
      a,
      b,
      c,
      d,
      length-append (little_bytes 4 s.channel) (little_bytes 4 s.token),
      length-append (little_bytes 4 s.channel ++ little_bytes 4 s.token) (little_bytes 4 s.next),
      length-append (little_bytes 4 s.channel ++ little_bytes 4 s.token ++ little_bytes 4 s.next) (little_bytes 4 request),
    )

-- header, head and bytes are a chunk
pub chunk_is : (to : List ℕ) (k : Kind) (c : Chunk) (request : ℕ) (bytes : List ℕ) (s : Sending)
    → to ++ start_bytes k c (16 + length bytes) ++ written_head request s ++ bytes ≡ to ++ part_bytes (part k c request bytes s)
chunk_is to k c request bytes s =
    let head = written_head request s in
    let long : 16 + length bytes ≡ length (head ++ bytes) = omega (arith, head_long request s, length-append head bytes) in
    append_assoc (to ++ start_bytes k c (16 + length bytes)) head bytes
    ∙ append_assoc to (start_bytes k c (16 + length bytes)) (head ++ bytes)
    ∙ ap (λ (n : ℕ). to ++ (start_bytes k c n ++ (head ++ bytes))) long

-- ---- the last chunk, or one before it

pub last_by : (n : ℕ) (k : Kind) (request : ℕ) (bytes : List ℕ) (s : Sending) → length bytes ≤ in_chunk s → parts_up_to n k request bytes s ≡ part k chunk.Final request bytes s ∷ []
last_by zero k request bytes s le = refl
last_by (suc n) k request bytes s le = rw (le-ltb (in_chunk s) (length bytes) le) refl

pub more_by : (n : ℕ) (k : Kind) (request : ℕ) (bytes : List ℕ) (s : Sending) → in_chunk s < length bytes
    → parts_up_to (suc n) k request bytes s ≡ part k chunk.Middle request (take (in_chunk s) bytes) s ∷ parts_up_to n k request (drop (in_chunk s) bytes) (stepped s)
more_by n k request bytes s lt = rw (lt-ltb (in_chunk s) (length bytes) lt) refl

enough : (n m : ℕ) (k : Kind) (request : ℕ) (bytes : List ℕ) (s : Sending) → 1 ≤ in_chunk s → length bytes ≤ n → length bytes ≤ m → parts_up_to n k request bytes s ≡ parts_up_to m k request bytes s
enough zero m k request bytes s least ln lm = sym (last_by m k request bytes s (omega arith))
enough (suc n) zero k request bytes s least ln lm = last_by (suc n) k request bytes s (omega arith)
enough (suc n) (suc m) k request bytes s least ln lm = elim (cases_lt (in_chunk s) (length bytes)) [
  | inl lt ↦
      let less = length-drop (in_chunk s) bytes in
      more_by n k request bytes s lt
      ∙ ap (λ parts. part k chunk.Middle request (take (in_chunk s) bytes) s ∷ parts) (enough n m k request (drop (in_chunk s) bytes) (stepped s) least (omega (arith, less)) (omega (arith, less)))
      ∙ sym (more_by m k request bytes s lt)
  | inr le ↦ last_by (suc n) k request bytes s le ∙ sym (last_by (suc m) k request bytes s le)
]

pub parts_last : (k : Kind) (request : ℕ) (bytes : List ℕ) (s : Sending) → length bytes ≤ in_chunk s → message_parts k request bytes s ≡ part k chunk.Final request bytes s ∷ []
unfolding message_parts
parts_last k request bytes s le = last_by (length bytes) k request bytes s le

pub parts_more : (k : Kind) (request : ℕ) (bytes : List ℕ) (s : Sending) → 1 ≤ in_chunk s → in_chunk s < length bytes
    → message_parts k request bytes s ≡ part k chunk.Middle request (take (in_chunk s) bytes) s ∷ message_parts k request (drop (in_chunk s) bytes) (stepped s)
unfolding message_parts
parts_more k request [] s least lt = absurd (omega arith)
parts_more k request (b ∷ bytes) s least lt =
    let less = length-drop (in_chunk s) (b ∷ bytes) in
    more_by (length bytes) k request (b ∷ bytes) s lt
    ∙ ap (λ parts. part k chunk.Middle request (take (in_chunk s) (b ∷ bytes)) s ∷ parts)
    (enough (length bytes) (length (drop (in_chunk s) (b ∷ bytes))) k request (drop (in_chunk s) (b ∷ bytes)) (stepped s) least (omega (arith, less)) (omega arith))

-- ---- one turn of the loop, and its end

pub record Steps (to : List ℕ) (k : Kind) (request : ℕ) (front back rest : List ℕ) (s : Sending) (next : ℕ) : Type 0 where
  pub bytes : to ++ part_bytes (part k chunk.Middle request front s) ++ parts_bytes (message_parts k request back (record s { next = next })) ≡ to ++ parts_bytes (message_parts k request rest s)
  pub after : after_parts (message_parts k request back (record s { next = next })) (record s { next = next }) ≡ after_parts (message_parts k request rest s) s

pub steps : (to : List ℕ) (k : Kind) (request : ℕ) (front back rest : List ℕ) (s : Sending) (next : ℕ) → 1 ≤ in_chunk s → in_chunk s < length rest
    → front ≡ take (in_chunk s) rest → back ≡ drop (in_chunk s) rest → next ≡ after_chunk s.next → Steps to k request front back rest s next
steps to k request front back rest s next least lt fronts backs nexts =
    let more = parts_more k request rest s least lt in
    let same : message_parts k request back (record s { next = next }) ≡ message_parts k request (drop (in_chunk s) rest) (stepped s) = ap (λ (l : List ℕ). message_parts k request l (record s { next = next })) backs ∙ ap (λ (n : ℕ). message_parts k request (drop (in_chunk s) rest) (record s { next = n })) nexts in
    record {
      bytes = append_assoc to (part_bytes (part k chunk.Middle request front s)) (parts_bytes (message_parts k request back (record s { next = next })))
          ∙ ap (λ (l : List ℕ). to ++ (part_bytes (part k chunk.Middle request l s) ++ parts_bytes (message_parts k request back (record s { next = next })))) fronts
          ∙ ap (λ parts. to ++ (part_bytes (part k chunk.Middle request (take (in_chunk s) rest) s) ++ parts_bytes parts)) same
          ∙ ap (λ parts. to ++ parts_bytes parts) (sym more);
      after = ap (λ parts. after_parts parts (record s { next = next })) same
          ∙ ap (λ (n : ℕ). after_parts (message_parts k request (drop (in_chunk s) rest) (stepped s)) (record s { next = n })) nexts
          ∙ ap (λ parts. after_parts parts s) (sym more);
    }

pub record Stops (to : List ℕ) (k : Kind) (request : ℕ) (rest : List ℕ) (s : Sending) : Type 0 where
  pub bytes : to ++ part_bytes (part k chunk.Final request rest s) ≡ to ++ parts_bytes (message_parts k request rest s)
  pub after : stepped s ≡ after_parts (message_parts k request rest s) s

pub stops : (to : List ℕ) (k : Kind) (request : ℕ) (rest : List ℕ) (s : Sending) → length rest ≤ in_chunk s → Stops to k request rest s
stops to k request rest s le =
    let last = parts_last k request rest s le in
    record {
      bytes = ap (λ (l : List ℕ). to ++ l) (sym (append-nil (part_bytes (part k chunk.Final request rest s)))) ∙ ap (λ parts. to ++ parts_bytes parts) (sym last);
      after = ap (λ parts. after_parts parts s) (sym last);
    }

-- ---- six lists

pub six : (to a b c d e f : List ℕ) → to ++ a ++ b ++ c ++ d ++ e ++ f ≡ to ++ (a ++ b ++ c ++ d ++ e ++ f)
six to a b c d e f =
    let two = append_assoc to a b in
    let three = ap (λ (l : List ℕ). l ++ c) two ∙ append_assoc to (a ++ b) c in
    let four = ap (λ (l : List ℕ). l ++ d) three ∙ append_assoc to (a ++ b ++ c) d in
    let five = ap (λ (l : List ℕ). l ++ e) four ∙ append_assoc to (a ++ b ++ c ++ d) e in
    ap (λ (l : List ℕ). l ++ f) five ∙ append_assoc to (a ++ b ++ c ++ d ++ e) f

-- ---- numbers

next_by : (b : Bool) (n : ℕ) → (n == 2 ^ 32 - 1024) ≡ b → n ≤ 4294966272 → cond b 1 (n + 1) ≤ 4294966272
next_by true n e le = omega arith
next_by false n e le = grind (arith, nat_tests)

-- a number stays below the end of the ring
pub next_fits : (n : ℕ) → n ≤ 4294966272 → after_chunk n ≤ 4294966272
next_fits n le = next_by (n == 2 ^ 32 - 1024) n refl le
