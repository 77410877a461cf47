-- What reading a body says in the words of the grammar.
use Rattle.std.proofs.Common.{◌≡◌, ◌==◌, ℕ, ◌≤◌, ◌<◌, Bool, true, false, eqb, ltb, cond, List, [], ◌∷◌, ◌++◌, length, take, Option, Some, None, Result, Ok, Err, refl, sym, ap, subst, ◌∙◌, arith, inl, inr}
use Rattle.std.specs.List.{find}
use Rattle.std.proofs.lemmas.Bool.{eqb-true}
use Rattle.std.proofs.lemmas.Bool.Decides.{nat_tests}
use Rattle.std.proofs.lemmas.List.{append-nil, take_all}
use Rattle.ua_values.specs.declared.extension.ExtensionObject.{ExtensionObject}
use Rattle.ua_values.specs.declared.fault.ValueFault.{ValueFault}
use Rattle.ua_values.specs.declared.fault.ValueFault.TheVariants as faults
use Rattle.ua_values.specs.Reading.{Input, input, Fault, Short, Bad, Moves, passed, give, sized}
use Rattle.ua_values.specs.Parts.{Chained, Begun}
use Rattle.ua_values.specs.Codec.{Reads, IsCodec}
use Rattle.ua_values.specs.Types.{node_id}
use Rattle.ua_values.specs.Readers.{node_at}
use Rattle.ua_values.proofs.Chain.{reads, reads_on, reads_as}
use Rattle.ua_values.proofs.Fields.{Mapped, mapped}
use Rattle.ua_values.proofs.Leaves.{given}
use Rattle.ua_values.proofs.Nesting.{give_reads, reads_mapped}
use Rattle.ua_values.proofs.TypeCodecs.{node_codec}
use Rattle.ua_values.proofs.Answers.{is_read}
use Rattle.ua_structures.specs.declared.body.BodyFault.{BodyFault}
use Rattle.ua_structures.specs.declared.body.BodyFault.TheVariants as body
use Rattle.ua_structures.specs.Body.{type_number, type_id, Case, Family, is_body, is_foreign, Opened, Unknown, Known, opened, service, cut_behind, opened_cut, type_at, behind_at, opened_at, judged_opened, taken_whole, finished, body_at, Answers, IsBadBody, IsBodyRead, held_bytes, content_at, object_at, IsBadContent, IsContentRead}

-- ---- which structure a number says

some_is : {K : Type 0} (k j : K) → ◌≡◌ {A = Option K} (Some k) (Some j) → k ≡ j
some_is k j e = cc

some_not_none : {K : Type 0} (k : K) → ◌≡◌ {A = Option K} (Some k) None → ⊥
some_not_none k e = cc

-- what is found has the number
found_here : {K : Type 0} (id : K → ℕ) (n : ℕ) (j k : K) (rest : Option K) (b : Bool) → eqb (id j) n ≡ b → (rest ≡ Some k → id k ≡ n) → cond b (Some j) rest ≡ Some k → id k ≡ n
found_here id n j k rest true same later e = ap id (sym (some_is j k e)) ∙ eqb-true (id j) n same
found_here id n j k rest false same later e = later e

found_by : {K : Type 0} (id : K → ℕ) (n : ℕ) (all : List K) (k : K) → find (λ j. id j == n) all ≡ Some k → id k ≡ n
found_by id n [] k e = absurd cc
found_by id n (j ∷ more) k e = found_here id n j k (find (λ i. id i == n) more) (eqb (id j) n) refl (λ h. found_by id n more k h) e

pub has_number : {K A : Type 0} (family : Family K A) (n : ℕ) (k : K) → service family n ≡ Some k → family.id k ≡ n
has_number family n k e = found_by family.id n family.all k e

pub is_known : {K A : Type 0} (family : Family K A) (n : ℕ) (k : K) → family.id k ≡ n → service family n ≡ Some k
is_known family n k same = subst (λ (m : ℕ). service family m ≡ Some k) same (family.known k)

pub not_foreign : {K A : Type 0} (family : Family K A) (n : ℕ) → service family n ≡ None → is_foreign family n
not_foreign family n none k same = some_not_none k (sym (is_known family n k same) ∙ none)

no_service : {K A : Type 0} (family : Family K A) (n : ℕ) → is_foreign family n → (o : Option K) → service family n ≡ o → service family n ≡ None
no_service family n foreign (Some k) e = absurd (foreign k (has_number family n k e))
no_service family n foreign None e = e

pub is_foreign_none : {K A : Type 0} (family : Family K A) (n : ℕ) → is_foreign family n → service family n ≡ None
is_foreign_none family n foreign = no_service family n foreign (service family n) refl

-- ---- what stands behind the type

pub type_codec : IsCodec type_id type_at
type_codec = mapped node_id node_at type_number node_codec

pub type_reads : Reads type_id (Begun type_id) type_at
type_reads = reads type_id type_at type_codec

abbrev behind : {K A : Type 0} → (K → Case A) → ℕ → Option K → Opened A → List ℕ → Type 0
behind cases n (Some k) = Mapped (cases k).spells Known
behind cases n None = given (Unknown n)

behind_reads : {K A : Type 0} (cases : K → Case A) (n : ℕ) (o : Option K) → Reads (behind cases n o) (cut_behind cases o) (behind_at cases n o)
behind_reads cases n (Some k) = reads_mapped (cases k).spells (cases k).cut (cases k).at Known (cases k).reads
behind_reads cases n None = give_reads (Unknown n)

known_is : {A : Type 0} (a b : A) → ◌≡◌ {A = Opened A} (Known a) (Known b) → a ≡ b
known_is a b e = cc

unknown_is : {A : Type 0} (n m : ℕ) → ◌≡◌ {A = Opened A} (Unknown n) (Unknown m) → n ≡ m
unknown_is n m e = cc

not_both : {A : Type 0} (a : A) (n : ℕ) → ◌≡◌ {A = Opened A} (Known a) (Unknown n) → ⊥
not_both a n e = cc

known_to : {K A : Type 0} (family : Family K A) (a : A) (n : ℕ) (bytes front back : List ℕ) (o : Option K) → service family n ≡ o → type_id n front → behind family.cases n o (Known a) back → bytes ≡ front ++ back
    → is_body family a bytes
known_to family a n bytes front back (Some k) is first second whole_is =
    let same : a ≡ second.0 = known_is a second.0 second.1 in (
      k,
      record {
        front = front;
        back = back;
        first = subst (λ (m : ℕ). type_id m front) (sym (has_number family n k is)) first;
        second = subst (λ b. (family.cases k).spells b back) (sym same) second.2;
        whole = whole_is;
      },
    )
known_to family a n bytes front back None is first second whole_is = absurd (not_both a n second.0)

nothing_behind : (bytes front back : List ℕ) → bytes ≡ front ++ back → back ≡ [] → front ≡ bytes
nothing_behind bytes front back whole_is none = sym (whole_is ∙ ap (λ (l : List ℕ). front ++ l) none ∙ append-nil front)

unknown_to : {K A : Type 0} (family : Family K A) (m n : ℕ) (bytes front back : List ℕ) (o : Option K) → service family n ≡ o → type_id n front → behind {A = A} family.cases n o (Unknown m) back → bytes ≡ front ++ back
    → is_foreign family m × type_id m bytes
unknown_to family m n bytes front back (Some k) is first second whole_is = absurd (not_both second.0 m (sym second.1))
unknown_to {A = A} family m n bytes front back None is first second whole_is =
    let same : n ≡ m = unknown_is {A = A} n m (sym second.0) in (
      not_foreign family m (ap (service family) (sym same) ∙ is),
      subst (λ (l : List ℕ). type_id m l) (nothing_behind bytes front back whole_is second.1) (subst (λ (k : ℕ). type_id k front) same first),
    )

opened_to : {K A : Type 0} (family : Family K A) (a : Opened A) (bytes : List ℕ) → Chained type_id (λ n. behind family.cases n (service family n)) a bytes → opened family a bytes
opened_to family (Known a) bytes c = known_to family a c.value bytes c.parts.front c.parts.back (service family c.value) refl c.parts.first c.parts.second c.parts.whole
opened_to family (Unknown m) bytes c = unknown_to family m c.value bytes c.parts.front c.parts.back (service family c.value) refl c.parts.first c.parts.second c.parts.whole

opened_from : {K A : Type 0} (family : Family K A) (a : Opened A) (bytes : List ℕ) → opened family a bytes → Chained type_id (λ n. behind family.cases n (service family n)) a bytes
opened_from family (Known a) bytes o =
    let k = o.0 in
    record {
      value = family.id k;
      parts = record {
        front = o.1.front;
        back = o.1.back;
        first = o.1.first;
        second = subst (λ j. behind family.cases (family.id k) j (Known a) o.1.back) (sym (family.known k)) (a, refl, o.1.second);
        whole = o.1.whole;
      };
    }
opened_from {A = A} family (Unknown n) bytes o = record {
  value = n;
  parts = record {
    front = bytes;
    back = [];
    first = o.1;
    second = subst (λ k. behind {A = A} family.cases n k (Unknown n) []) (sym (is_foreign_none family n o.0)) (refl, refl);
    whole = sym (append-nil bytes);
  };
}

pub opened_reads : {K A : Type 0} (family : Family K A) → Reads (opened family) (opened_cut family) (opened_at family)
opened_reads family =
    reads_as (Chained type_id (λ n. behind family.cases n (service family n))) (opened family) (opened_cut family) (opened_cut family) (opened_at family)
    (opened_to family) (opened_from family) (λ bytes cut. cut)
    (reads_on type_id (Begun type_id) type_at (λ n. behind family.cases n (service family n)) (λ n. cut_behind family.cases (service family n)) (λ n. behind_at family.cases n (service family n))
    type_reads (λ n. behind_reads family.cases n (service family n)))

-- ---- the whole of a body

is_ok : {A : Type 0} (a b : A) → ◌≡◌ {A = Result A BodyFault} (Ok a) (Ok b) → a ≡ b
is_ok a b e = cc

is_bad : {A : Type 0} (p q c d : ℕ) → ◌≡◌ {A = Result A BodyFault} (Err (body.Bad p c)) (Err (body.Bad q d)) → (p ≡ q) × (c ≡ d)
is_bad p q c d e = (cc, cc)

is_unknown : {A : Type 0} (n m : ℕ) → ◌≡◌ {A = Result A BodyFault} (Err (body.Unknown n)) (Err (body.Unknown m)) → n ≡ m
is_unknown n m e = cc

-- what was answered by cases on what was read, and on whether something is left over
known_said : {K A : Type 0} (family : Family K A) (bytes : List ℕ) (a : A) (place : ℕ) (b : Bool) → ltb place (length bytes) ≡ b → (place ≤ length bytes) × is_body family a (take place bytes)
    → (result : Result A BodyFault) → Answers result (cond b (Err (body.Bad place 0x80070000)) (Ok a)) → IsBodyRead family bytes result
known_said {A = A} family bytes a place true test read (Ok x) e = absurd cc
known_said {A = A} family bytes a place true test read (Err (body.Unknown n)) e = absurd cc
known_said {A = A} family bytes a place true test read (Err (body.Bad p c)) e =
    let is = is_bad {A = A} place p 0x80070000 c e in
    let lt : place < length bytes = grind (arith, nat_tests) in
    inr (inl (sym is.1, omega (arith, is.0), (a, subst (λ (k : ℕ). is_body family a (take k bytes)) is.0 read.1)))
known_said family bytes a place b test read (Err body.OutOfMemory) e = tt
known_said {A = A} family bytes a place false test read (Ok x) e =
    let le : length bytes ≤ place = grind (arith, nat_tests) in
    subst (λ y. is_body family y bytes) (is_ok a x e) (subst (λ (l : List ℕ). is_body family a l) (take_all place bytes le) read.1)
known_said {A = A} family bytes a place false test read (Err (body.Unknown n)) e = absurd cc
known_said {A = A} family bytes a place false test read (Err (body.Bad p c)) e = absurd cc

unknown_said : {K A : Type 0} (family : Family K A) (bytes : List ℕ) (n place : ℕ) → (place ≤ length bytes) × opened {A = A} family (Unknown n) (take place bytes)
    → (result : Result A BodyFault) → Answers result (Err (body.Unknown n)) → IsBodyRead family bytes result
unknown_said family bytes n place read (Ok x) e = absurd cc
unknown_said {A = A} family bytes n place read (Err (body.Unknown m)) e =
    let is = is_unknown {A = A} n m e in
    subst (λ (k : ℕ). is_foreign family k × ((size : ℕ) × (size ≤ length bytes) × type_id k (take size bytes))) is (read.1.0, (place, read.0, read.1.1))
unknown_said family bytes n place read (Err (body.Bad p c)) e = absurd cc
unknown_said family bytes n place read (Err body.OutOfMemory) e = tt

bad_said : {K A : Type 0} (family : Family K A) (bytes : List ℕ) (place code : ℕ) → IsBadBody (is_body family) (opened family) (opened_cut family) bytes place code
    → (result : Result A BodyFault) → Answers result (Err (body.Bad place code)) → IsBodyRead family bytes result
bad_said family bytes place code is_so (Ok x) e = absurd cc
bad_said family bytes place code is_so (Err (body.Unknown n)) e = absurd cc
bad_said {A = A} family bytes place code is_so (Err (body.Bad p c)) e =
    let is = is_bad {A = A} place p code c e in
    subst (λ (k : ℕ). IsBadBody (is_body family) (opened family) (opened_cut family) bytes k c) is.0 (subst (λ (k : ℕ). IsBadBody (is_body family) (opened family) (opened_cut family) bytes place k) is.1 is_so)
bad_said family bytes place code is_so (Err body.OutOfMemory) e = tt

said : {K A : Type 0} (family : Family K A) (bytes : List ℕ) (r : Result (Opened A × Input) Fault) → opened_at family (input 0 bytes) ≡ r
    → (result : Result A BodyFault) → Answers result (judged_opened (length bytes) r) → IsBodyRead family bytes result
said family bytes (Ok (Known a, after)) e result given =
    known_said family bytes a after.place (ltb after.place (length bytes)) refl
    (is_read (opened family) (opened_cut family) (opened_at family) (opened_reads family) bytes (Ok (Known a, after.place)) (ap sized e)) result given
said family bytes (Ok (Unknown n, after)) e result given =
    unknown_said family bytes n after.place
    (is_read (opened family) (opened_cut family) (opened_at family) (opened_reads family) bytes (Ok (Unknown n, after.place)) (ap sized e)) result given
said family bytes (Err Short) e result given =
    bad_said family bytes (length bytes) 0x80070000
    (inl (refl, refl, is_read (opened family) (opened_cut family) (opened_at family) (opened_reads family) bytes (Err faults.Short) (ap sized e))) result given
said family bytes (Err (Bad place code)) e result given =
    bad_said family bytes place code
    (inr (inr (is_read (opened family) (opened_cut family) (opened_at family) (opened_reads family) bytes (Err (faults.Bad place code)) (ap sized e)))) result given

pub body_said : {K A : Type 0} (family : Family K A) (bytes : List ℕ) (result : Result A BodyFault) → Answers result (body_at family bytes) → IsBodyRead family bytes result
body_said family bytes result given = said family bytes (opened_at family (input 0 bytes)) refl result given

-- ---- what the code's steps answer

whole_answers : {A : Type 0} (a : A) (place : ℕ) (b : Bool) → Answers {A = A} (cond b (Err (body.Bad place 0x80070000)) (Ok a)) (cond b (Err (body.Bad place 0x80070000)) (Ok a))
whole_answers a place true = refl
whole_answers a place false = refl

opens : {K A : Type 0} (family : Family K A) (bytes : List ℕ) (n : ℕ) (k : K) (from : Input) (read : Result (A × Input) Fault) → type_at (input 0 bytes) ≡ Ok (n, from) → service family n ≡ Some k
    → (family.cases k).at from ≡ read → body_at family bytes ≡ judged_opened (length bytes) (passed read (λ a. give (Known a)))
opens family bytes n k from read type_is known case_is = rw (type_is, known, case_is) refl

pub finish_answers : {K A : Type 0} (family : Family K A) (bytes : List ℕ) (n : ℕ) (k : K) (from : Input) (r : Result A ValueFault) (after : Input) → type_at (input 0 bytes) ≡ Ok (n, from)
    → service family n ≡ Some k → Moves (λ b. b) r after ((family.cases k).at from) → Answers (finished (length bytes) r after.place) (body_at family bytes)
finish_answers family bytes n k from (Ok a) after type_is known moved =
    subst (λ y. Answers (finished (length bytes) (Ok a) after.place) y) (sym (opens family bytes n k from (Ok (a, after)) type_is known moved)) (whole_answers a after.place (ltb after.place (length bytes)))
finish_answers family bytes n k from (Err faults.Short) after type_is known moved = opens family bytes n k from (Err Short) type_is known moved
finish_answers family bytes n k from (Err (faults.Bad place code)) after type_is known moved = opens family bytes n k from (Err (Bad place code)) type_is known moved
finish_answers family bytes n k from (Err faults.OutOfMemory) after type_is known moved = tt

-- ---- a structure in an ExtensionObject

-- what was answered of the bytes, by cases on what was read, and on whether something is left over
whole_said : {K A : Type 0} (family : Family K A) (x : ExtensionObject) (k : K) (bytes : List ℕ) (a : A) (place : ℕ) (b : Bool) → type_number x.type_id ≡ family.id k → held_bytes x.body ≡ Some bytes
    → ltb place (length bytes) ≡ b → (place ≤ length bytes) × (family.cases k).spells a (take place bytes)
    → (result : Result A BodyFault) → Answers result (cond b (Err (body.Bad place 0x80070000)) (Ok a)) → IsContentRead family x result
whole_said {A = A} family x k bytes a place true type_is held test read (Ok y) e = absurd cc
whole_said {A = A} family x k bytes a place true type_is held test read (Err (body.Unknown n)) e = absurd cc
whole_said {A = A} family x k bytes a place true type_is held test read (Err (body.Bad p c)) e =
    let is = is_bad {A = A} place p 0x80070000 c e in
    let lt : place < length bytes = grind (arith, nat_tests) in (
      k,
      type_is,
      subst (λ o. IsBadContent (family.cases k) o p c) (sym held)
          (inr (inl (sym is.1, omega (arith, is.0), (a, subst (λ (n : ℕ). (family.cases k).spells a (take n bytes)) is.0 read.1)))),
    )
whole_said family x k bytes a place b type_is held test read (Err body.OutOfMemory) e = tt
whole_said {A = A} family x k bytes a place false type_is held test read (Ok y) e =
    let le : length bytes ≤ place = grind (arith, nat_tests) in (
      k,
      bytes,
      type_is,
      held,
      subst (λ z. (family.cases k).spells z bytes) (is_ok a y e) (subst (λ (l : List ℕ). (family.cases k).spells a l) (take_all place bytes le) read.1),
    )
whole_said {A = A} family x k bytes a place false type_is held test read (Err (body.Unknown n)) e = absurd cc
whole_said {A = A} family x k bytes a place false type_is held test read (Err (body.Bad p c)) e = absurd cc

no_content_said : {K A : Type 0} (family : Family K A) (x : ExtensionObject) (k : K) (place code : ℕ) → type_number x.type_id ≡ family.id k → IsBadContent (family.cases k) (held_bytes x.body) place code
    → (result : Result A BodyFault) → Answers result (Err (body.Bad place code)) → IsContentRead family x result
no_content_said family x k place code type_is is_so (Ok y) e = absurd cc
no_content_said family x k place code type_is is_so (Err (body.Unknown n)) e = absurd cc
no_content_said {A = A} family x k place code type_is is_so (Err (body.Bad p c)) e =
    let is = is_bad {A = A} place p code c e in (
      k,
      type_is,
      subst (λ (n : ℕ). IsBadContent (family.cases k) (held_bytes x.body) n c) is.0 (subst (λ (n : ℕ). IsBadContent (family.cases k) (held_bytes x.body) place n) is.1 is_so),
    )
no_content_said family x k place code type_is is_so (Err body.OutOfMemory) e = tt

held_said : {K A : Type 0} (family : Family K A) (x : ExtensionObject) (k : K) (bytes : List ℕ) → type_number x.type_id ≡ family.id k → held_bytes x.body ≡ Some bytes
    → (r : Result (A × Input) Fault) → (family.cases k).at (input 0 bytes) ≡ r
    → (result : Result A BodyFault) → Answers result (taken_whole (length bytes) r) → IsContentRead family x result
held_said family x k bytes type_is held (Ok y) e result given =
    let one = family.cases k in
    whole_said family x k bytes y.0 y.1.place (ltb y.1.place (length bytes)) type_is held refl (is_read one.spells one.cut one.at one.reads bytes (Ok (y.0, y.1.place)) (ap sized e)) result given
held_said family x k bytes type_is held (Err Short) e result given =
    let one = family.cases k in
    no_content_said family x k (length bytes) 0x80070000 type_is
    (subst (λ o. IsBadContent one o (length bytes) 0x80070000) (sym held) (inl (refl, refl, is_read one.spells one.cut one.at one.reads bytes (Err faults.Short) (ap sized e)))) result given
held_said family x k bytes type_is held (Err (Bad place code)) e result given =
    let one = family.cases k in
    no_content_said family x k place code type_is
    (subst (λ o. IsBadContent one o place code) (sym held) (inr (inr (is_read one.spells one.cut one.at one.reads bytes (Err (faults.Bad place code)) (ap sized e))))) result given

foreign_said : {K A : Type 0} (family : Family K A) (x : ExtensionObject) (n : ℕ) → type_number x.type_id ≡ n → is_foreign family n
    → (result : Result A BodyFault) → Answers result (Err (body.Unknown n)) → IsContentRead family x result
foreign_said family x n type_is foreign (Ok y) e = absurd cc
foreign_said {A = A} family x n type_is foreign (Err (body.Unknown m)) e =
    let is = is_unknown {A = A} n m e in
    (type_is ∙ is, subst (λ (k : ℕ). is_foreign family k) is foreign)
foreign_said family x n type_is foreign (Err (body.Bad p c)) e = absurd cc
foreign_said family x n type_is foreign (Err body.OutOfMemory) e = tt

object_said : {K A : Type 0} (family : Family K A) (x : ExtensionObject) (n : ℕ) → type_number x.type_id ≡ n → (o : Option K) → service family n ≡ o → (held : Option (List ℕ)) → held_bytes x.body ≡ held
    → (result : Result A BodyFault) → Answers result (content_at family n o held) → IsContentRead family x result
object_said family x n type_is None which held held_is result given = foreign_said family x n type_is (not_foreign family n which) result given
object_said family x n type_is (Some k) which None held_is result given =
    no_content_said family x k 0 0x80070000 (type_is ∙ sym (has_number family n k which)) (subst (λ o. IsBadContent (family.cases k) o 0 0x80070000) (sym held_is) (refl, refl)) result given
object_said family x n type_is (Some k) which (Some bytes) held_is result given =
    held_said family x k bytes (type_is ∙ sym (has_number family n k which)) held_is ((family.cases k).at (input 0 bytes)) refl result given

pub content_said : {K A : Type 0} (family : Family K A) (x : ExtensionObject) (result : Result A BodyFault) → Answers result (object_at family x) → IsContentRead family x result
content_said family x result given = object_said family x (type_number x.type_id) refl (service family (type_number x.type_id)) refl (held_bytes x.body) refl result given
