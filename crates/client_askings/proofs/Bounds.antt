-- How many bytes a header takes at the most where it is read, and what is read of a NodeId's text.
use Rattle.std.proofs.Common.{◌≡◌, ℕ, ◌+◌, ◌-◌, ◌*◌, ◌^◌, ◌≤◌, ◌==◌, List, [], ◌++◌, length, take, drop, nat_lt, nat_le, Bool, true, false, cond, Option, Some, None, Result, Ok, Err, refl, sym, ap, ◌∙◌, subst, arith}
use Rattle.std.proofs.lemmas.Bool.Decides.{nat_tests}
use Rattle.std.proofs.lemmas.List.{append-nil, length-append, length-drop}
use Rattle.byteorder.specs.Endian.{little_number}
use Rattle.uuid.specs.Parts.{swap_fields}
use Rattle.ua_values.specs.Limits.{most_bytes}
use Rattle.ua_values.specs.declared.extension.ExtensionBody.{ExtensionBody}
use Rattle.ua_values.specs.declared.extension.ExtensionBody.TheVariants as extension
use Rattle.ua_values.specs.declared.extension.ExtensionObject.{ExtensionObject}
use Rattle.ua_values.specs.declared.node.NodeId.{NodeId}
use Rattle.ua_values.specs.declared.node.NodeId.TheVariants as node
use Rattle.ua_values.specs.Reading.{Fault, Input, Reader, Short, any, field_at, give, input, judged, number_at, passed, run_at, ◌>>=◌}
use Rattle.ua_values.specs.Readers.{body_at, extension_at, form_body_at, form_of, guid_at, kind_body_at, kind_of, length_of, node_at, run_of, text_at}
use Rattle.ua_values.specs.Written.{shortest, shortest_number}
use Rattle.ua_values.specs.Codec.{Reads}
use Rattle.ua_values.specs.Parts.{◌followed_by◌, number, text}
use Rattle.ua_values.specs.Types.{extension_object, node_id}
use Rattle.ua_values.proofs.Chain.{ok_is, reads as codec_reads}
use Rattle.ua_values.proofs.Leaves.{judged_ok}
use Rattle.ua_values.proofs.TypeCodecs.{extension_codec, failed_not, fine_is, node_codec, text_codec}
use Rattle.ua_structures.specs.declared.header.RequestHeader.{RequestHeader}
use Rattle.ua_structures.specs.Structures.{a_request_header, an_unused_of_request}

-- ---- one part after another

pub record Bound {A B : Type 0} (first : Reader A) (next : A → Reader B) (i : Input) (b : B) (after : Input) : Type 0 where
  pub value : A
  pub middle : Input
  pub one : first i ≡ Ok (value, middle)
  pub other : next value middle ≡ Ok (b, after)

bound_by : {A B : Type 0} (first : Reader A) (next : A → Reader B) (i : Input) (b : B) (after : Input) (x : Result (A × Input) Fault)
    → first i ≡ x → passed x next ≡ Ok (b, after) → Bound first next i b after
bound_by first next i b after (Ok x) is e = record { value = x.0; middle = x.1; one = is; other = e }
bound_by first next i b after (Err f) is e = absurd cc

pub bound : {A B : Type 0} (first : Reader A) (next : A → Reader B) (i : Input) (b : B) (after : Input) → (first >>= next) i ≡ Ok (b, after)
    → Bound first next i b after
bound first next i b after e = bound_by first next i b after (first i) refl e

-- ---- a field

pub record IsField {A : Type 0} (w : ℕ) (meaning : ℕ → Result A ℕ) (i : Input) (a : A) (after : Input) : Type 0 where
  pub says : meaning (little_number w (take w i.rest)) ≡ Ok a
  pub left : after.rest ≡ drop w i.rest

run_left : (b : Bool) (n : ℕ) (i : Input) (run : List ℕ) (after : Input)
    → cond {A = Result (List ℕ × Input) Fault} b (Err Short) (Ok (take n i.rest, input (i.place + n) (drop n i.rest))) ≡ Ok (run, after) → (run ≡ take n i.rest) × (after.rest ≡ drop n i.rest)
run_left true n i run after e = absurd cc
run_left false n i run after e =
    let same = ok_is _ _ e in
    (sym (ap (λ (x : List ℕ × Input). x.0) same), sym (ap (λ (x : List ℕ × Input). x.1.rest) same))

pub field_is : {A : Type 0} (w : ℕ) (meaning : ℕ → Result A ℕ) (i : Input) (a : A) (after : Input) → field_at w meaning i ≡ Ok (a, after)
    → IsField w meaning i a after
field_is w meaning i a after e =
    let parts = bound (run_at w) (λ bytes. judged (meaning (little_number w bytes)) i.place) i a after e in
    let run = run_left (nat_lt (length i.rest) w) w i parts.value parts.middle parts.one in
    let so = judged_ok (meaning (little_number w parts.value)) i.place parts.middle a after parts.other in
    record {
      says = ap (λ (l : List ℕ). meaning (little_number w l)) (sym run.0) ∙ so.0;
      left = ap (λ (x : Input). x.rest) (sym so.1) ∙ run.1;
    }

-- ---- how many bytes are taken

abbrev pub TakesMost : {A : Type 0} → ℕ → Reader A → Type 0
TakesMost {A} most at = (i : Input) (a : A) (after : Input) → at i ≡ Ok (a, after) → length i.rest ≤ most + length after.rest

drop_most : (w : ℕ) (xs ys : List ℕ) → ys ≡ drop w xs → length xs ≤ w + length ys
drop_most w xs ys is =
    let long : length ys ≡ length xs - w = ap length is ∙ length-drop w xs in
    omega arith

field_most : {A : Type 0} (w : ℕ) (meaning : ℕ → Result A ℕ) → TakesMost w (field_at w meaning)
field_most w meaning i a after e = drop_most w i.rest after.rest (field_is w meaning i a after e).left

run_most : (n : ℕ) → TakesMost n (run_at n)
run_most n i run after e = drop_most n i.rest after.rest (run_left (nat_lt (length i.rest) n) n i run after e).1

give_most : {A : Type 0} (a : A) → TakesMost 0 (give a)
give_most {A} a i b after e =
    let long : length i.rest ≡ length after.rest = ap (λ (x : A × Input). length x.1.rest) (ok_is _ _ e) in
    omega arith

then_most : {A B : Type 0} (m n : ℕ) (first : Reader A) (next : A → Reader B) → TakesMost m first → ((a : A) → TakesMost n (next a)) → TakesMost (m + n) (first >>= next)
then_most m n first next one other i b after e =
    let parts = bound first next i b after e in
    let front : length i.rest ≤ m + length parts.middle.rest = one i parts.value parts.middle parts.one in
    let back : length parts.middle.rest ≤ n + length after.rest = other parts.value parts.middle b after parts.other in
    omega arith

two_most : {A B C : Type 0} (m n : ℕ) (first : Reader A) (next : Reader B) (make : A → B → C) → TakesMost m first → TakesMost n next
    → TakesMost (m + (n + 0)) (first >>= λ a. next >>= λ b. give (make a b))
two_most m n first next make one other =
    then_most m (n + 0) first (λ a. next >>= λ b. give (make a b)) one
    (λ a. then_most n 0 next (λ b. give (make a b)) other (λ b. give_most (make a b)))

-- a field, and what it says determines what follows
choice_most : {A B : Type 0} (w n : ℕ) (meaning : ℕ → Result A ℕ) (next : A → Reader B) → ((k : ℕ) (a : A) → meaning k ≡ Ok a → TakesMost n (next a))
    → TakesMost (w + n) (field_at w meaning >>= next)
choice_most w n meaning next other i b after e =
    let parts = bound (field_at w meaning) next i b after e in
    let front : length i.rest ≤ w + length parts.middle.rest = field_most w meaning i parts.value parts.middle parts.one in
    let said = (field_is w meaning i parts.value parts.middle parts.one).says in
    let back : length parts.middle.rest ≤ n + length after.rest = other _ parts.value said parts.middle b after parts.other in
    omega arith

-- ---- a text

length_by : (b c : Bool) (n m code : ℕ) → nat_lt most_bytes n ≡ c
    → cond {A = Result (Option ℕ) ℕ} b (Ok None) (cond c (Err code) (Ok (Some n))) ≡ Ok (Some m) → m ≤ most_bytes
length_by true c n m code test e = absurd cc
length_by false true n m code test e = absurd cc
length_by false false n m code test e =
    let same : n ≡ m = cc in
    let few : n ≤ most_bytes = grind (arith, nat_tests) in
    omega arith

run_of_most : (n : ℕ) (o : Option ℕ) → length_of n ≡ Ok o → TakesMost most_bytes (run_of o)
run_of_most n None e i a after is =
    let all : length i.rest ≤ 0 + length after.rest = give_most None i a after is in
    omega arith
run_of_most n (Some m) e i a after is =
    let few : m ≤ most_bytes = length_by (nat_le (2 ^ 31) n) (nat_lt most_bytes n) n m _ refl e in
    let all : length i.rest ≤ m + 0 + length after.rest =
    then_most m 0 (run_at m) (λ run. give (Some run)) (run_most m) (λ run. give_most (Some run)) i a after is in
    omega arith

text_most : TakesMost (4 + most_bytes) text_at
text_most = choice_most 4 most_bytes length_of run_of run_of_most

-- ---- a choice by a byte

one_case : {K : Type 0} (P : K → ℕ → Type 0) (a x : K) (n k : ℕ) (r : Result K ℕ) (b : Bool) → (n == k) ≡ b → P a k → (r ≡ Ok x → P x n)
    → cond b (Ok a) r ≡ Ok x → P x n
one_case P a x n k r true test here others e =
    let same : k ≡ n = grind (arith, nat_tests) in
    subst (λ (m : ℕ). P x m) same (subst (λ y. P y k) (fine_is a x e) here)
one_case P a x n k r false test here others e = others e

pub form_cases : (P : _ → ℕ → Type 0) → P (shortest_number 0 0) 0 → P (shortest_number 1 0) 1 → P (shortest_number 256 0) 2 → P (shortest (node.Text 0 None)) 3
    → P (shortest (node.Guid 0 [])) 4 → P (shortest (node.Opaque 0 None)) 5 → (n : ℕ) (f : _) → form_of n ≡ Ok f → P f n
form_cases P two four long text guid opaque n f e =
    one_case P (shortest_number 0 0) f n 0 _ _ refl two
    (λ e. one_case P (shortest_number 1 0) f n 1 _ _ refl four
    (λ e. one_case P (shortest_number 256 0) f n 2 _ _ refl long
    (λ e. one_case P (shortest (node.Text 0 None)) f n 3 _ _ refl text
    (λ e. one_case P (shortest (node.Guid 0 [])) f n 4 _ _ refl guid
    (λ e. one_case P (shortest (node.Opaque 0 None)) f n 5 _ _ refl opaque (λ e. absurd (failed_not f _ e)) e) e) e) e) e) e

form_body_most : (n : ℕ) (f : _) → form_of n ≡ Ok f → TakesMost (most_bytes + 18) (form_body_at f)
form_body_most n f e =
    form_cases (λ f n. TakesMost (most_bytes + 18) (form_body_at f))
    (λ i a after e. let all : length i.rest ≤ 1 + 0 + length after.rest =
    then_most 1 0 (number_at 1) (λ id. give (node.Numeric 0 id)) (field_most 1 any) (λ id. give_most (node.Numeric 0 id)) i a after e in omega arith)
    (λ i a after e. let all : length i.rest ≤ 1 + (2 + 0) + length after.rest =
    two_most 1 2 (number_at 1) (number_at 2) (λ k id. node.Numeric k id) (field_most 1 any) (field_most 2 any) i a after e in omega arith)
    (λ i a after e. let all : length i.rest ≤ 2 + (4 + 0) + length after.rest =
    two_most 2 4 (number_at 2) (number_at 4) (λ k id. node.Numeric k id) (field_most 2 any) (field_most 4 any) i a after e in omega arith)
    (λ i a after e. let all : length i.rest ≤ 2 + (4 + most_bytes + 0) + length after.rest =
    two_most 2 (4 + most_bytes) (number_at 2) text_at (λ k id. node.Text k id) (field_most 2 any) text_most i a after e in omega arith)
    (λ i a after e. let all : length i.rest ≤ 2 + (16 + 0 + 0) + length after.rest =
    two_most 2 (16 + 0) (number_at 2) guid_at (λ k id. node.Guid k id) (field_most 2 any)
    (then_most 16 0 (run_at 16) (λ bytes. give (swap_fields bytes)) (run_most 16) (λ bytes. give_most (swap_fields bytes))) i a after e in omega arith)
    (λ i a after e. let all : length i.rest ≤ 2 + (4 + most_bytes + 0) + length after.rest =
    two_most 2 (4 + most_bytes) (number_at 2) text_at (λ k id. node.Opaque k id) (field_most 2 any) text_most i a after e in omega arith)
    n f e

node_most : TakesMost (1 + (most_bytes + 18)) node_at
node_most = choice_most 1 (most_bytes + 18) form_of form_body_at form_body_most

-- ---- an ExtensionObject

first_case : {K : Type 0} (P : K → Type 0) (a x : K) (r : Result K ℕ) (b : Bool) → cond b (Ok a) r ≡ Ok x → P a → (r ≡ Ok x → P x) → P x
first_case P a x r true e here others = subst P (fine_is a x e) here
first_case P a x r false e here others = others e

absent_most : TakesMost (4 + most_bytes) (give extension.Absent)
absent_most i b after e = let all : length i.rest ≤ 0 + length after.rest = give_most extension.Absent i b after e in omega arith

run_body_most : (make : Option (List ℕ) → ExtensionBody) → TakesMost (4 + most_bytes) (text_at >>= λ run. give (make run))
run_body_most make i b after e =
    let all : length i.rest ≤ 4 + most_bytes + 0 + length after.rest =
    then_most (4 + most_bytes) 0 text_at (λ run. give (make run)) text_most (λ run. give_most (make run)) i b after e in
    omega arith

kind_body_most : (n : ℕ) (k : _) → kind_of n ≡ Ok k → TakesMost (4 + most_bytes) (kind_body_at k)
kind_body_most n k e =
    first_case (λ k. TakesMost (4 + most_bytes) (kind_body_at k)) _ k _ (n == 0) e absent_most
    (λ e. first_case (λ k. TakesMost (4 + most_bytes) (kind_body_at k)) _ k _ (n == 1) e (run_body_most extension.Binary)
    (λ e. first_case (λ k. TakesMost (4 + most_bytes) (kind_body_at k)) _ k _ (n == 2) e (run_body_most extension.Xml) (λ e. absurd (failed_not k _ e))))

object_most : TakesMost (1 + (most_bytes + 18) + (1 + (4 + most_bytes) + 0)) extension_at
object_most =
    two_most (1 + (most_bytes + 18)) (1 + (4 + most_bytes)) node_at body_at (λ type_id body. record { type_id = type_id; body = body }) node_most
    (choice_most 1 (4 + most_bytes) kind_of kind_body_at kind_body_most)

-- ---- so it is of what is spelled

spelled_most : {A : Type 0} {C : List ℕ → Type 0} (most : ℕ) (spells : A → List ℕ → Type 0) (at : Reader A) → Reads spells C at → TakesMost most at
    → (a : A) (bytes : List ℕ) → spells a bytes → length bytes ≤ most
spelled_most most spells at reads takes a bytes is =
    let all : length (bytes ++ []) ≤ most + 0 = takes (input 0 (bytes ++ [])) a (input (0 + length bytes) []) (reads.again 0 bytes [] a is) in
    let same : length (bytes ++ []) ≡ length bytes = ap length (append-nil bytes) in
    omega arith

joined_most : {P Q : List ℕ → Type 0} (bytes : List ℕ) (a b : ℕ) (is : (P followed_by Q) bytes) → length is.front ≤ a → length is.back ≤ b
    → length bytes ≤ a + b
joined_most bytes a b is first second =
    let both : length (is.front ++ is.back) ≡ length is.front + length is.back = length-append is.front is.back in
    let all : length bytes ≡ length (is.front ++ is.back) = ap length is.whole in
    omega arith

number_long : (w n : ℕ) (bytes : List ℕ) → number w n bytes → length bytes ≤ w
number_long w n bytes is = let long : length bytes ≡ w = is.0 in omega arith

text_long : (o : Option (List ℕ)) (bytes : List ℕ) → text o bytes → length bytes ≤ 4 + most_bytes
text_long o bytes is = spelled_most (4 + most_bytes) text text_at (codec_reads text text_at text_codec) text_most o bytes is

abbrev node_limit : ℕ
node_limit = 1 + (most_bytes + 18)

abbrev object_limit : ℕ
object_limit = 1 + (most_bytes + 18) + (1 + (4 + most_bytes) + 0)

pub node_long : (n : NodeId) (bytes : List ℕ) → node_id n bytes → length bytes ≤ node_limit
node_long n bytes is = spelled_most node_limit node_id node_at (codec_reads node_id node_at node_codec) node_most n bytes is

object_long : (x : ExtensionObject) (bytes : List ℕ) → extension_object x bytes → length bytes ≤ object_limit
object_long x bytes is =
    spelled_most object_limit extension_object extension_at (codec_reads extension_object extension_at extension_codec) object_most x bytes is

-- ---- a header begins with a NodeId, and isn't long

pub record HasNode (h : RequestHeader) (bytes : List ℕ) : Type 0 where
  pub front : List ℕ
  pub back : List ℕ
  pub spelled : node_id h.authentication_token front
  pub whole : bytes ≡ front ++ back
  pub most : length bytes ≤ 5 * most_bytes

pub header_parts : (h : RequestHeader) (bytes : List ℕ) → a_request_header.spells h bytes → HasNode h bytes
unfolding a_request_header an_unused_of_request
header_parts h bytes is =
    let rest = is.second.second.second.1 in
    let audit = rest.second in
    let limit : ℕ = 4 + (4 + most_bytes + (4 + object_limit)) in
    let time : length is.second.front ≤ 8 = number_long 8 _ is.second.front is.second.first.2 in
    let handle : length is.second.second.front ≤ 4 = number_long 4 _ is.second.second.front is.second.second.first in
    let timeout : length audit.back ≤ 4 + object_limit =
    joined_most audit.back 4 object_limit audit.second (number_long 4 _ audit.second.front audit.second.first)
    (object_long _ audit.second.back audit.second.second) in
    let text : length rest.back ≤ 4 + most_bytes + (4 + object_limit) =
    joined_most rest.back (4 + most_bytes) (4 + object_limit) audit (text_long _ audit.front audit.first) timeout in
    let unused : length is.second.second.back ≤ limit =
    joined_most is.second.second.back 4 (4 + most_bytes + (4 + object_limit)) rest (number_long 4 _ rest.front rest.first) text in
    let behind : length is.second.back ≤ 4 + limit = joined_most is.second.back 4 limit is.second.second handle unused in
    let fields : length is.back ≤ 8 + (4 + limit) = joined_most is.back 8 (4 + limit) is.second time behind in
    let all : length bytes ≤ node_limit + (8 + (4 + limit)) =
    joined_most bytes node_limit (8 + (4 + limit)) is (node_long h.authentication_token is.front is.first) fields in
    record { front = is.front; back = is.back; spelled = is.first; whole = is.whole; most = omega arith }
