-- What is written of a request's header is a spelling of some header, or it names a text that no body may hold.
use Rattle.std.proofs.Common.{◌≡◌, ℕ, ◌+◌, ◌%◌, ◌^◌, ◌≤◌, ◌<◌, ◌==◌, ◌||◌, List, [], ◌++◌, length, take, drop, nat_le, nat_lt, Bool, true, false, cond, Option, Some, None, Result, Ok, Err, refl, sym, ap, ◌∙◌, append_assoc, arith, ◌⊎◌, inl, inr}
use Rattle.std.specs.Int.{cast_signed, cast_unsigned, w64}
use Rattle.std.proofs.lemmas.Bool.Decides.{nat_tests}
use Rattle.std.proofs.lemmas.List.{drop_at, length-append, take_at}
use Rattle.byteorder.specs.Endian.{little_bytes, little_number}
use Rattle.uuid.specs.Parts.{swap_fields}
use Rattle.ua_values.specs.Limits.{most_bytes}
use Rattle.ua_values.specs.declared.node.NodeId.{NodeId}
use Rattle.ua_values.specs.declared.node.NodeId.TheVariants as node
use Rattle.ua_values.specs.Parts.{◌followed_by◌, number, text}
use Rattle.ua_values.specs.Reading.{Input, give, input, number_at, ◌>>=◌}
use Rattle.ua_values.specs.Readers.{form_body_at, form_of, length_of, node_at, run_of, text_at}
use Rattle.ua_values.specs.Types.{form_body, form_byte, guid, node_id, signed}
use Rattle.ua_values.specs.Reading.{any, field_at}
use Rattle.ua_values.specs.Written.{shortest, shortest_number, written_node, written_number, written_signed, written_text}
use Rattle.ua_values.proofs.TypeCodecs.{node_codec}
use Rattle.ua_values.proofs.WrittenLemmas.{in_turn, number1, number4, text_spelled}
use Rattle.ua_structures.specs.declared.header.RequestHeader.{RequestHeader}
use Rattle.ua_structures.specs.Structures.{a_request_header, an_unused_of_request}
use Rattle.client_orders.proofs.Lengths.{little_long}
use Rattle.client_askings.proofs.Bounds.{bound, field_is, form_cases}

-- ---- a NodeId whose text isn't too long has a spelling

abbrev pub IsSpelled : NodeId → Type 0
IsSpelled t = (n : NodeId) × node_id n (written_node t)

-- behind its form, a namespace, a length, and so many bytes
abbrev long_node : ℕ → ℕ → List ℕ → List ℕ
long_node byte namespace run = little_bytes 1 byte ++ (little_bytes 2 namespace ++ (little_bytes 4 (length run % 2 ^ 32) ++ run))

pub record IsLong (t : NodeId) : Type 0 where
  pub byte : ℕ
  pub texts : (byte ≡ 3) ⊎ (byte ≡ 5)
  pub namespace : ℕ
  pub run : List ℕ
  pub long : most_bytes < length run
  pub is : written_node t ≡ long_node byte namespace run

node_of : (f : _) (n : NodeId) (back : List ℕ) → form_byte f < 256 → form_body f n back → node_id n (little_bytes 1 (form_byte f) ++ back)
node_of f n back small is = record {
  value = f;
  parts = in_turn (number 1 (form_byte f)) (form_body f n) (little_bytes 1 (form_byte f)) back (number1 (form_byte f) small) is;
}

two_numbers : (v w a b : ℕ) → (number v (little_number v (little_bytes v a)) followed_by number w (little_number w (little_bytes w b))) (little_bytes v a ++ little_bytes w b)
two_numbers v w a b =
    in_turn (number v (little_number v (little_bytes v a))) (number w (little_number w (little_bytes w b))) (little_bytes v a) (little_bytes w b)
    (little_long v a, refl) (little_long w b, refl)

number_spelled_by : (b c : Bool) (namespace id : ℕ)
    → (n : NodeId) × node_id n (little_bytes 1 (form_byte (cond b (shortest_number 0 0) (cond c (shortest_number 1 0) (shortest_number 256 0))))
    ++ written_number (cond b (shortest_number 0 0) (cond c (shortest_number 1 0) (shortest_number 256 0))) namespace id)
number_spelled_by true c namespace id =
    let one : ℕ = little_number 1 (little_bytes 1 id) in
    (node.Numeric 0 one, node_of (shortest_number 0 0) (node.Numeric 0 one) (little_bytes 1 id) (omega arith) (one, refl, (little_long 1 id, refl)))
number_spelled_by false true namespace id =
    let one : ℕ = little_number 1 (little_bytes 1 namespace) in
    let two : ℕ = little_number 2 (little_bytes 2 id) in
    (node.Numeric one two, node_of (shortest_number 1 0) (node.Numeric one two) (little_bytes 1 namespace ++ little_bytes 2 id) (omega arith) (one, two, refl, two_numbers 1 2 namespace id))
number_spelled_by false false namespace id =
    let one : ℕ = little_number 2 (little_bytes 2 namespace) in
    let two : ℕ = little_number 4 (little_bytes 4 id) in
    (node.Numeric one two, node_of (shortest_number 256 0) (node.Numeric one two) (little_bytes 2 namespace ++ little_bytes 4 id) (omega arith) (one, two, refl, two_numbers 2 4 namespace id))

text_node : (namespace : ℕ) (id : Option (List ℕ)) → text id (written_text id)
    → (number 2 (little_number 2 (little_bytes 2 namespace)) followed_by text id) (little_bytes 2 namespace ++ written_text id)
text_node namespace id is =
    in_turn (number 2 (little_number 2 (little_bytes 2 namespace))) (text id) (little_bytes 2 namespace) (written_text id)
    (little_long 2 namespace, refl) is

node_text : (namespace : ℕ) (id : Option (List ℕ)) → text id (written_text id) → IsSpelled (node.Text namespace id)
node_text namespace id is =
    let one : ℕ = little_number 2 (little_bytes 2 namespace) in
    (node.Text one id, node_of (shortest (node.Text 0 None)) (node.Text one id) (little_bytes 2 namespace ++ written_text id) (omega arith) (one, id, refl, text_node namespace id is))

node_opaque : (namespace : ℕ) (id : Option (List ℕ)) → text id (written_text id) → IsSpelled (node.Opaque namespace id)
node_opaque namespace id is =
    let one : ℕ = little_number 2 (little_bytes 2 namespace) in
    (node.Opaque one id, node_of (shortest (node.Opaque 0 None)) (node.Opaque one id) (little_bytes 2 namespace ++ written_text id) (omega arith) (one, id, refl, text_node namespace id is))

text_test : (namespace : ℕ) (run : List ℕ) (b : Bool) → nat_le (length run) most_bytes ≡ b → IsSpelled (node.Text namespace (Some run)) ⊎ IsLong (node.Text namespace (Some run))
text_test namespace run true e = inl (node_text namespace (Some run) (text_spelled (Some run) (grind (arith, nat_tests))))
text_test namespace run false e =
    inr (record { byte = 3; texts = inl refl; namespace = namespace; run = run; long = grind (arith, nat_tests); is = refl })

opaque_test : (namespace : ℕ) (run : List ℕ) (b : Bool) → nat_le (length run) most_bytes ≡ b → IsSpelled (node.Opaque namespace (Some run)) ⊎ IsLong (node.Opaque namespace (Some run))
opaque_test namespace run true e = inl (node_opaque namespace (Some run) (text_spelled (Some run) (grind (arith, nat_tests))))
opaque_test namespace run false e =
    inr (record { byte = 5; texts = inr refl; namespace = namespace; run = run; long = grind (arith, nat_tests); is = refl })

pub spelled_or_long : (t : NodeId) → IsSpelled t ⊎ IsLong t
spelled_or_long (node.Numeric namespace id) = inl (number_spelled_by _ _ namespace id)
spelled_or_long (node.Text namespace None) = inl (node_text namespace None (text_spelled None tt))
spelled_or_long (node.Text namespace (Some run)) = text_test namespace run _ refl
spelled_or_long (node.Guid namespace id) =
    let one : ℕ = little_number 2 (little_bytes 2 namespace) in
    let run : List ℕ = swap_fields id in
    inl (
      node.Guid one (swap_fields run),
      node_of (shortest (node.Guid 0 [])) (node.Guid one (swap_fields run)) (little_bytes 2 namespace ++ run) (omega arith)
          (one, swap_fields run, refl, in_turn (number 2 one) (guid (swap_fields run)) (little_bytes 2 namespace) run (little_long 2 namespace, refl) (refl, refl)),
    )
spelled_or_long (node.Opaque namespace None) = inl (node_opaque namespace None (text_spelled None tt))
spelled_or_long (node.Opaque namespace (Some run)) = opaque_test namespace run _ refl

-- ---- and so has a header

pub spelled_header : (h : RequestHeader) → IsSpelled h.authentication_token
    → (other : RequestHeader) × a_request_header.spells other (a_request_header.written h)
unfolding a_request_header an_unused_of_request
spelled_header h is =
    let time : List ℕ = written_signed 8 w64 h.timestamp in
    let handle : List ℕ = little_bytes 4 h.request_handle in
    let unused : List ℕ = an_unused_of_request.written h.rest in
    let at : ℕ = little_number 8 time in
    let one : ℕ = little_number 4 handle in (
      record { authentication_token = is.0; timestamp = cast_signed w64 at; request_handle = one; rest = h.rest },
      in_turn (node_id is.0) (signed 8 w64 (cast_signed w64 at) followed_by number 4 one followed_by an_unused_of_request.spells h.rest)
          (written_node h.authentication_token) (time ++ handle ++ unused) is.1
          (in_turn (signed 8 w64 (cast_signed w64 at)) (number 4 one followed_by an_unused_of_request.spells h.rest) time (handle ++ unused)
          (at, refl, (little_long 8 (cast_unsigned w64 h.timestamp), refl))
          (in_turn (number 4 one) (an_unused_of_request.spells h.rest) handle unused (little_long 4 h.request_handle, refl) (an_unused_of_request.spelled h.rest tt))),
    )

-- ---- where a long text is written, and something is read, it is very long

length_far : (b c : Bool) (n long code : ℕ) (o : Option ℕ) → nat_le (2 ^ 31) n ≡ b → nat_lt most_bytes n ≡ c
    → cond {A = Result (Option ℕ) ℕ} b (Ok None) (cond c (Err code) (Ok (Some n))) ≡ Ok o → n ≡ long % 2 ^ 32 → most_bytes < long → 2 ^ 31 ≤ long
length_far true c n long code o test more e is far = let above : 2 ^ 31 ≤ n = grind (arith, nat_tests) in omega arith
length_far false true n long code o test more e is far = absurd cc
length_far false false n long code o test more e is far = let few : n ≤ most_bytes = grind (arith, nat_tests) in omega arith

-- a text is read
record IsTextAt (i : Input) : Type 0 where
  middle : Input
  left : middle.rest ≡ drop 2 i.rest
  id : Option (List ℕ)
  after : Input
  reads : text_at middle ≡ Ok (id, after)

text_in : (make : ℕ → Option (List ℕ) → NodeId) (i : Input) (n : NodeId) (after : Input)
    → (number_at 2 >>= λ k. text_at >>= λ id. give (make k id)) i ≡ Ok (n, after) → IsTextAt i
text_in make i n after e =
    let parts = bound (number_at 2) (λ k. text_at >>= λ id. give (make k id)) i n after e in
    let last = bound text_at (λ id. give (make parts.value id)) parts.middle n after parts.other in
    record { middle = parts.middle; left = (field_is 2 any i parts.value parts.middle parts.one).left; id = last.value; after = last.middle; reads = last.one }

neither : (k : ℕ) → (k ≡ 3) ⊎ (k ≡ 5) → (k == 3 || k == 5) ≡ false → ⊥
neither k (inl is) test = absurd (grind (arith, nat_tests))
neither k (inr is) test = absurd (grind (arith, nat_tests))

form_text : (byte : ℕ) (f : _) → form_of byte ≡ Ok f → (byte ≡ 3) ⊎ (byte ≡ 5) → (i : Input) (n : NodeId) (after : Input)
    → form_body_at f i ≡ Ok (n, after) → IsTextAt i
form_text byte f e =
    form_cases (λ f k. (k ≡ 3) ⊎ (k ≡ 5) → (i : Input) (n : NodeId) (after : Input) → form_body_at f i ≡ Ok (n, after) → IsTextAt i)
    (λ texts i n after e. absurd (neither 0 texts refl))
    (λ texts i n after e. absurd (neither 1 texts refl))
    (λ texts i n after e. absurd (neither 2 texts refl))
    (λ texts i n after e. text_in (λ k id. node.Text k id) i n after e)
    (λ texts i n after e. absurd (neither 4 texts refl))
    (λ texts i n after e. text_in (λ k id. node.Opaque k id) i n after e)
    byte f e

far_text : (i : Input) (run y : List ℕ) (id : Option (List ℕ)) (after : Input) → i.rest ≡ little_bytes 4 (length run % 2 ^ 32) ++ (run ++ y)
    → most_bytes < length run → text_at i ≡ Ok (id, after) → 2 ^ 31 ≤ length run
far_text i run y id after is far e =
    let m : ℕ = length run % 2 ^ 32 in
    let parts = bound (field_at 4 length_of) run_of i id after e in
    let says = (field_is 4 length_of i parts.value parts.middle parts.one).says in
    let front : take 4 i.rest ≡ little_bytes 4 m = ap (take 4) is ∙ take_at (little_bytes 4 m) (run ++ y) 4 (little_long 4 m) in
    let spelled : number 4 m (little_bytes 4 m) = number4 m (omega arith) in
    let reads : little_number 4 (take 4 i.rest) ≡ m = ap (little_number 4) front ∙ spelled.1 in
    length_far (nat_le (2 ^ 31) m) (nat_lt most_bytes m) m (length run) _ parts.value refl refl (ap length_of (sym reads) ∙ says) refl far

left_is : (w : ℕ) (xs ys front rest : List ℕ) → ys ≡ drop w xs → xs ≡ front ++ rest → length front ≡ w → ys ≡ rest
left_is w xs ys front rest left is long = left ∙ ap (drop w) is ∙ drop_at front rest w long

far_node : (byte namespace : ℕ) (run y : List ℕ) (n : NodeId) (after : Input) → (byte ≡ 3) ⊎ (byte ≡ 5) → byte < 256 → most_bytes < length run
    → node_at (input 0 (little_bytes 1 byte ++ (little_bytes 2 namespace ++ (little_bytes 4 (length run % 2 ^ 32) ++ (run ++ y))))) ≡ Ok (n, after)
    → 2 ^ 31 ≤ length run
far_node byte namespace run y n after texts small far e =
    let one : List ℕ = little_bytes 1 byte in
    let two : List ℕ = little_bytes 2 namespace in
    let rest : List ℕ = little_bytes 4 (length run % 2 ^ 32) ++ (run ++ y) in
    let i : Input = input 0 (one ++ (two ++ rest)) in
    let parts = bound (field_at 1 form_of) form_body_at i n after e in
    let field = field_is 1 form_of i parts.value parts.middle parts.one in
    let front : take 1 (one ++ (two ++ rest)) ≡ one = take_at one (two ++ rest) 1 (little_long 1 byte) in
    let spelled : number 1 byte one = number1 byte small in
    let reads : little_number 1 (take 1 (one ++ (two ++ rest))) ≡ byte = ap (little_number 1) front ∙ spelled.1 in
    let text_is = form_text byte parts.value (ap form_of (sym reads) ∙ field.says) texts parts.middle n after parts.other in
    let behind : parts.middle.rest ≡ two ++ rest = field.left ∙ drop_at one (two ++ rest) 1 (little_long 1 byte) in
    let last : text_is.middle.rest ≡ rest =
    left_is 2 parts.middle.rest text_is.middle.rest two rest text_is.left behind (little_long 2 namespace) in
    far_text text_is.middle run y text_is.id text_is.after last far text_is.reads

long_shape : (byte namespace : ℕ) (run y : List ℕ) → long_node byte namespace run ++ y
    ≡ little_bytes 1 byte ++ (little_bytes 2 namespace ++ (little_bytes 4 (length run % 2 ^ 32) ++ (run ++ y)))
long_shape byte namespace run y =
    let one : List ℕ = little_bytes 1 byte in
    let two : List ℕ = little_bytes 2 namespace in
    let four : List ℕ = little_bytes 4 (length run % 2 ^ 32) in
    append_assoc one (two ++ (four ++ run)) y
    ∙ ap (λ (l : List ℕ). one ++ l) (append_assoc two (four ++ run) y ∙ ap (λ (l : List ℕ). two ++ l) (append_assoc four run y))

text_small : (byte : ℕ) → (byte ≡ 3) ⊎ (byte ≡ 5) → byte < 256
text_small byte (inl is) = omega (arith, is)
text_small byte (inr is) = omega (arith, is)

pub very_long : (t n : NodeId) (is : IsLong t) (bytes x y : List ℕ) → node_id n bytes → bytes ++ x ≡ written_node t ++ y → 2 ^ 31 ≤ length is.run
very_long t n is bytes x y spelled whole =
    let all : bytes ++ x ≡ little_bytes 1 is.byte ++ (little_bytes 2 is.namespace ++ (little_bytes 4 (length is.run % 2 ^ 32) ++ (is.run ++ y))) =
    whole ∙ ap (λ (l : List ℕ). l ++ y) is.is ∙ long_shape is.byte is.namespace is.run y in
    let read = node_codec.again 0 bytes x n spelled in
    far_node is.byte is.namespace is.run y n (input (0 + length bytes) x) is.texts (text_small is.byte is.texts) is.long
    (ap (λ (l : List ℕ). node_at (input 0 l)) (sym all) ∙ read)

-- and all of it is written
pub run_inside : (t : NodeId) (is : IsLong t) → length is.run ≤ length (written_node t)
run_inside t is =
    let one : List ℕ = little_bytes 1 is.byte in
    let two : List ℕ = little_bytes 2 is.namespace in
    let four : List ℕ = little_bytes 4 (length is.run % 2 ^ 32) in
    let all : length (written_node t) ≡ length (one ++ (two ++ (four ++ is.run))) = ap length is.is in
    let first : length (one ++ (two ++ (four ++ is.run))) ≡ length one + length (two ++ (four ++ is.run)) = length-append one (two ++ (four ++ is.run)) in
    let second : length (two ++ (four ++ is.run)) ≡ length two + length (four ++ is.run) = length-append two (four ++ is.run) in
    let third : length (four ++ is.run) ≡ length four + length is.run = length-append four is.run in
    omega arith
