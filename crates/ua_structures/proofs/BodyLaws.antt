-- What holds of each family's bodies, and of the objects that hold its structures.
use Rattle.std.proofs.Common.{◌≡◌, ℕ, ◌+◌, ◌^◌, ◌<◌, List, [], ◌++◌, length, Option, Some, None, Result, Ok, Err, refl, sym, ap, subst, ◌∙◌, arith}
use Rattle.std.proofs.lemmas.Bool.{le-ltb}
use Rattle.std.proofs.lemmas.List.{append-nil}
use Rattle.ua_values.specs.declared.node.NodeId.TheVariants as node
use Rattle.ua_values.specs.declared.extension.ExtensionObject.{ExtensionObject}
use Rattle.ua_values.specs.Reading.{Input, input, Fault, Short, Bad, passed}
use Rattle.ua_values.proofs.Chain.{is_apart}
use Rattle.ua_values.proofs.WrittenLemmas.{node_spelled, in_turn}
use Rattle.ua_structures.specs.declared.body.BodyFault.{BodyFault}
use Rattle.ua_structures.specs.declared.body.BodyFault.TheVariants as body
use Rattle.ua_structures.specs.declared.front.BodyType.{BodyType}
use Rattle.ua_structures.specs.Body.{type_number, type_id, type_at, behind_at, service, judged_type, IsForeignUnknown, Family, is_body, Opened, Known, opened, opened_at, whole, taken_whole, judged_opened, body_at, written_type, Put, written_by, AreLawful, content_at, object_at, holds, object_by, AreHeld}
use Rattle.ua_structures.proofs.Bodies.{type_reads, opened_reads, is_known}

-- what is written of a value that keeps the rules is a spelling of it
abbrev pub Spells : {K A : Type 0} → Family K A → (A → Put K) → Type 0
Spells {A = A} family puts = (a : A) → (puts a).keeps → (family.cases (puts a).kind).spells a (puts a).text

-- ---- bodies

known_same : {A : Type 0} (a b : A) → ◌≡◌ {A = Opened A} (Known a) (Known b) → a ≡ b
known_same a b e = cc

pub type_spelled : (n : ℕ) → n < 2 ^ 32 → type_id n (written_type n)
type_spelled n fits = (node.Numeric 0 n, refl, node_spelled (node.Numeric 0 n) (omega arith, fits))

pub body_spelled : {K A : Type 0} (family : Family K A) (puts : A → Put K) → Spells family puts → (a : A) → (puts a).keeps → is_body family a (written_by family puts a)
body_spelled family puts spelled a kept =
    let k = (puts a).kind in
    (k, in_turn (type_id (family.id k)) ((family.cases k).spells a) (written_type (family.id k)) (puts a).text (type_spelled (family.id k) (family.small k)) (spelled a kept))

nothing_left : {A : Type 0} (long place : ℕ) (a : A) → place ≡ long → whole long a place ≡ Ok a
nothing_left {A = A} long place a ends = rw (le-ltb place long (omega arith)) refl

body_again : {K A : Type 0} (family : Family K A) (a : A) (text : List ℕ) → is_body family a text → body_at family text ≡ Ok a
body_again {A = A} family a text spelled =
    let read : opened_at family (input 0 (text ++ [])) ≡ Ok (Known a, input (0 + length text) []) = (opened_reads family).again 0 text [] (Known a) spelled in
    let here : opened_at family (input 0 text) ≡ Ok (Known a, input (0 + length text) []) = ap (λ (l : List ℕ). opened_at family (input 0 l)) (sym (append-nil text)) ∙ read in
    ap (judged_opened (length text)) here ∙ nothing_left (length text) (0 + length text) a (omega arith)

pub bodies_lawful : {K A : Type 0} (family : Family K A) (puts : A → Put K) → Spells family puts → AreLawful family puts
bodies_lawful family puts spelled = record {
  apart = λ a b text more first second.
      let is = is_apart (opened family) (opened_at family) (opened_reads family) (Known a) (Known b) text more first second in
      (is.0, known_same a b is.1);
  spelled = body_spelled family puts spelled;
  again = λ a kept. body_again family a (written_by family puts a) (body_spelled family puts spelled a kept);
}

-- ---- a type that no structure of the family has

foreign_read : {K A : Type 0} (family : Family K A) (bytes : List ℕ) (n : ℕ) (after : Input) → type_at (input 0 bytes) ≡ Ok (n, after) → service family n ≡ None → body_at family bytes ≡ Err (body.Unknown n)
foreign_read family bytes n after read none =
    ap (judged_opened (length bytes)) (ap (λ r. passed r (λ m. behind_at family.cases m (service family m))) read ∙ ap (λ o. behind_at family.cases n o after) none)

foreign_spelled : {K A : Type 0} (family : Family K A) (n : ℕ) (front text : List ℕ) → type_id n front → service family n ≡ None → body_at family (front ++ text) ≡ Err (body.Unknown n)
foreign_spelled family n front text spelled none =
    foreign_read family (front ++ text) n (input (0 + length front) text) (type_reads.again 0 front text n spelled) none

type_same : (x t : BodyType) → ◌≡◌ {A = Result BodyType BodyFault} (Ok x) (Ok t) → x ≡ t
type_same x t e = cc

foreign_behind : {K A : Type 0} (family : Family K A) (bytes : List ℕ) (r : Result (ℕ × Input) Fault) → type_at (input 0 bytes) ≡ r → (t : BodyType) → judged_type (length bytes) r ≡ Ok t → service family t.id ≡ None
    → body_at family bytes ≡ Err (body.Unknown t.id)
foreign_behind family bytes (Ok x) e t is none =
    let same : x.0 ≡ t.id = ap (λ (y : BodyType). y.id) (type_same (record { id = x.0; place = x.1.place }) t is) in
    foreign_read family bytes t.id x.1 (e ∙ ap (λ (n : ℕ). Ok (n, x.1)) same) none
foreign_behind family bytes (Err Short) e t is none = absurd cc
foreign_behind family bytes (Err (Bad place code)) e t is none = absurd cc

pub foreign_unknown : {K A : Type 0} (family : Family K A) → IsForeignUnknown family
foreign_unknown family = record {
  spelled = foreign_spelled family;
  written = λ n text fits none. foreign_spelled family n (written_type n) text (type_spelled n fits) none;
  read = λ bytes t is none. foreign_behind family bytes (type_at (input 0 bytes)) refl t is none;
}

-- ---- structures in an ExtensionObject

held_same : (a b : List ℕ) → ◌≡◌ {A = Option (List ℕ)} (Some a) (Some b) → a ≡ b
held_same a b e = cc

case_same : {K : Type 0} (j k : K) → ◌≡◌ {A = Option K} (Some j) (Some k) → j ≡ k
case_same j k e = cc

held_apart : {K A : Type 0} (family : Family K A) (a b : A) (x : ExtensionObject) → holds family a x → holds family b x → a ≡ b
held_apart family a b x first second =
    let k = first.0 in
    let n = type_number x.type_id in
    let kinds : second.0 ≡ k = case_same second.0 k (sym (is_known family n second.0 (sym second.2)) ∙ is_known family n k (sym first.2)) in
    let texts : second.1 ≡ first.1 = held_same second.1 first.1 (sym second.3 ∙ first.3) in
    let other : (family.cases k).spells b (first.1 ++ []) = subst (λ (l : List ℕ). (family.cases k).spells b l) (texts ∙ sym (append-nil first.1)) (subst (λ j. (family.cases j).spells b second.1) kinds second.4) in
    (is_apart (family.cases k).spells (family.cases k).at (family.cases k).reads a b first.1 [] first.4 other).1

object_holds : {K A : Type 0} (family : Family K A) (puts : A → Put K) → Spells family puts → (a : A) → (puts a).keeps → holds family a (object_by family puts a)
object_holds family puts spelled a kept = ((puts a).kind, (puts a).text, refl, refl, spelled a kept)

held_again : {K A : Type 0} (family : Family K A) (k : K) (a : A) (text : List ℕ) → (family.cases k).spells a text → content_at family (family.id k) (Some k) (Some text) ≡ Ok a
held_again {A = A} family k a text spelled =
    let at = (family.cases k).at in
    let read : at (input 0 (text ++ [])) ≡ Ok (a, input (0 + length text) []) = (family.cases k).reads.again 0 text [] a spelled in
    let here : at (input 0 text) ≡ Ok (a, input (0 + length text) []) = ap (λ (l : List ℕ). at (input 0 l)) (sym (append-nil text)) ∙ read in
    ap (taken_whole (length text)) here ∙ nothing_left (length text) (0 + length text) a (omega arith)

object_again : {K A : Type 0} (family : Family K A) (puts : A → Put K) → Spells family puts → (a : A) → (puts a).keeps → object_at family (object_by family puts a) ≡ Ok a
object_again family puts spelled a kept =
    let k = (puts a).kind in
    ap (λ o. content_at family (family.id k) o (Some (puts a).text)) (family.known k) ∙ held_again family k a (puts a).text (spelled a kept)

pub contents_lawful : {K A : Type 0} (family : Family K A) (puts : A → Put K) → Spells family puts → AreHeld family puts
contents_lawful family puts spelled = record {
  apart = held_apart family;
  held = object_holds family puts spelled;
  again = object_again family puts spelled;
}
