-- Written spellings are spellings.
use Rattle.std.proofs.Common.{◌≡◌, ℕ, ◌+◌, ◌-◌, ◌/◌, ◌%◌, ◌^◌, ◌<◌, ℤ, Bool, true, false, not, ◌&&◌, cond, ltb, eqb, List, [], ◌∷◌, ◌++◌, length, Option, Some, None, Ok, refl, sym, ap, subst, ◌∙◌, append_assoc, arith, inr, FitsSigned}
use Rattle.std.specs.List.{flat_map, AllByRecursion}
use Rattle.std.proofs.lemmas.List.Concat.{flat_map-cons}
use Rattle.std.specs.Option.{is_some}
use Rattle.std.specs.Int.{Width, cast_unsigned}
use mir.Val.{bits}
use Rattle.std.proofs.lemmas.Bool.{eqb-true}
use Rattle.std.proofs.lemmas.Bool.Decides.{nat_tests}
use Rattle.std.proofs.lemmas.Int.{to_z-of_z}
use Rattle.std.proofs.Math.Facts.{Fits-of_z, Fits-lt-pow}
use Rattle.std.proofs.lemmas.List.{append-nil}
use Rattle.byteorder.specs.Endian.{little_number, little_bytes}
use Rattle.byteorder.specs.Numbers.{little_number-reads_back, length-bytes_low_first}
use Rattle.uuid.proofs.RoundTrips.{swap_twice}
use Rattle.ua_values.specs.declared.node.NodeId.{NodeId}
use Rattle.ua_values.specs.declared.node.NodeId.TheVariants as node
use Rattle.ua_values.specs.declared.node.Form.{Form}
use Rattle.ua_values.specs.declared.node.Form.TheVariants as form
use Rattle.ua_values.specs.declared.node.ExpandedNodeId.{ExpandedNodeId}
use Rattle.ua_values.specs.declared.names.QualifiedName.{QualifiedName}
use Rattle.ua_values.specs.declared.names.LocalizedText.{LocalizedText}
use Rattle.ua_values.specs.declared.extension.ExtensionObject.{ExtensionObject}
use Rattle.ua_values.specs.declared.extension.ExtensionBody.{ExtensionBody}
use Rattle.ua_values.specs.declared.extension.ExtensionBody.TheVariants as extension
use Rattle.ua_values.specs.declared.extension.BodyKind.TheVariants as kind
use Rattle.ua_values.specs.Limits.{most_items}
use Rattle.ua_values.specs.Reading.{Reader, sized}
use Rattle.ua_values.specs.Parts.{number, exactly, optional, ◌followed_by◌, text, elements, array_within, array, Begun}
use Rattle.ua_values.specs.Codec.{Reads, IsCodec}
use Rattle.ua_values.specs.Readers.{has_bit}
use Rattle.ua_values.specs.Types.{boolean, signed, guid, form_byte, form_body, node_id, expanded_node_id, qualified_name, localized_text, extension_body, extension_object}
use Rattle.ua_values.specs.Written.{written_boolean, written_signed, written_guid, written_text, shortest, written_number, written_form, written_node, flag, unless_null, unless_zero, written_head, written_expanded, written_qualified, written_localized, written_body, written_extension, written_array}
use Rattle.ua_values.specs.Laws.{KeepsText, KeepsGuid, KeepsNode, KeepsExpanded, KeepsQualified, KeepsLocalized, KeepsBody, KeepsExtension, KeepsArrayWithin, KeepsArray, IsLawful}
use Rattle.ua_values.proofs.Chain.{is_apart, reads}

-- ---- all three laws, from a codec and the second

pub lawful_by : {A : Type 0} (keeps : A → Type 0) (spells : A → List ℕ → Type 0) (cut : List ℕ → Type 0) (at : Reader A) (written : A → List ℕ) → Reads spells cut at → ((a : A) → keeps a → spells a (written a)) → IsLawful keeps spells at written
lawful_by keeps spells cut at written reader is_spelled = record {
  apart = λ a b x y first second. is_apart spells at reader a b x y first second;
  spelled = is_spelled;
  again = λ a more kept. ap sized (reader.again 0 (written a) more a (is_spelled a kept)) ∙ ap (λ (n : ℕ). Ok (a, n)) (omega arith);
}

pub lawful : {A : Type 0} (keeps : A → Type 0) (spells : A → List ℕ → Type 0) (at : Reader A) (written : A → List ℕ) → IsCodec spells at → ((a : A) → keeps a → spells a (written a)) → IsLawful keeps spells at written
lawful keeps spells at written codec is_spelled = lawful_by keeps spells (Begun spells) at written (reads spells at codec) is_spelled

pub in_turn : (P Q : List ℕ → Type 0) (x y : List ℕ) → P x → Q y → (P followed_by Q) (x ++ y)
in_turn P Q x y first second = record { front = x; back = y; first = first; second = second; whole = refl }

-- ---- numbers

pub number_spelled : (w n : ℕ) → n < 256 ^ w → number w n (little_bytes w n)
number_spelled w n lt = (length-bytes_low_first 0 w n, ap (little_number w) (sym (append-nil (little_bytes w n))) ∙ little_number-reads_back w n [] lt)

pub number1 : (n : ℕ) → n < 256 → number 1 n (little_bytes 1 n)
number1 n lt = number_spelled 1 n (omega arith)

pub number2 : (n : ℕ) → n < 2 ^ 16 → number 2 n (little_bytes 2 n)
number2 n lt = number_spelled 2 n (omega arith)

pub number4 : (n : ℕ) → n < 2 ^ 32 → number 4 n (little_bytes 4 n)
number4 n lt = number_spelled 4 n (omega arith)

pub boolean_spelled : (b : Bool) → boolean b (written_boolean b)
boolean_spelled true = (1, omega arith, number1 1 (omega arith))
boolean_spelled false = number1 0 (omega arith)

pub guid_spelled : (g : List ℕ) → KeepsGuid g → guid g (written_guid g)
guid_spelled g kept = (refl, sym (swap_twice g kept))

pub signed_spelled : (w : ℕ) (width : Width) (z : ℤ) → FitsSigned width z → ((n : ℕ) → n < 2 ^ bits width → n < 256 ^ w) → signed w width z (written_signed w width z)
signed_spelled w width z fits holds =
    let low : cast_unsigned width z < 2 ^ bits width = Fits-lt-pow (Fits-of_z fits) in
    (cast_unsigned width z, sym (to_z-of_z width z fits), number_spelled w (cast_unsigned width z) (holds (cast_unsigned width z) low))

-- ---- texts

pub text_spelled : (o : Option (List ℕ)) → KeepsText o → text o (written_text o)
text_spelled None kept = (2 ^ 32 - 1, omega arith, number4 (2 ^ 32 - 1) (omega arith))
text_spelled (Some run) kept =
    let long : length run % 2 ^ 32 ≡ length run = omega arith in (
      kept,
      in_turn (number 4 (length run)) (exactly run) (little_bytes 4 (length run % 2 ^ 32)) run
          (subst (λ (n : ℕ). number 4 (length run) (little_bytes 4 n)) (sym long) (number4 (length run) (omega arith))) refl,
    )

-- ---- NodeId

form_is_small : (f : Form) → form_byte f < 6
form_is_small form.TwoByte = omega arith
form_is_small form.FourByte = omega arith
form_is_small form.Long = omega arith
form_is_small form.Text = omega arith
form_is_small form.Guid = omega arith
form_is_small form.Opaque = omega arith

-- the three forms of a number, by what the two tests say
number_form : (namespace id : ℕ) (b c : Bool) → (eqb namespace 0 && ltb id 256) ≡ b → (ltb namespace 256 && ltb id 65536) ≡ c → namespace < 2 ^ 16 → id < 2 ^ 32
    → form_body (cond b form.TwoByte (cond c form.FourByte form.Long)) (node.Numeric namespace id) (written_number (cond b form.TwoByte (cond c form.FourByte form.Long)) namespace id)
number_form namespace id true c p q fits_namespace fits_id =
    let none : namespace ≡ 0 = grind (arith, nat_tests) in
    let low : id < 256 = grind (arith, nat_tests) in
    (id, ap (λ (n : ℕ). node.Numeric n id) none, number1 id low)
number_form namespace id false true p q fits_namespace fits_id =
    let first : namespace < 256 = grind (arith, nat_tests) in
    let second : id < 65536 = grind (arith, nat_tests) in
    (namespace, id, refl, in_turn (number 1 namespace) (number 2 id) (little_bytes 1 namespace) (little_bytes 2 id) (number1 namespace first) (number2 id (omega arith)))
number_form namespace id false false p q fits_namespace fits_id = (namespace, id, refl, in_turn (number 2 namespace) (number 4 id) (little_bytes 2 namespace) (little_bytes 4 id) (number2 namespace fits_namespace) (number4 id fits_id))

form_spelled : (n : NodeId) → KeepsNode n → form_body (shortest n) n (written_form n)
form_spelled (node.Numeric namespace id) kept = number_form namespace id (eqb namespace 0 && ltb id 256) (ltb namespace 256 && ltb id 65536) refl refl kept.0 kept.1
form_spelled (node.Text namespace id) kept = (namespace, id, refl, in_turn (number 2 namespace) (text id) (little_bytes 2 namespace) (written_text id) (number2 namespace kept.0) (text_spelled id kept.1))
form_spelled (node.Guid namespace id) kept = (namespace, id, refl, in_turn (number 2 namespace) (guid id) (little_bytes 2 namespace) (written_guid id) (number2 namespace kept.0) (guid_spelled id kept.1))
form_spelled (node.Opaque namespace id) kept = (namespace, id, refl, in_turn (number 2 namespace) (text id) (little_bytes 2 namespace) (written_text id) (number2 namespace kept.0) (text_spelled id kept.1))

pub node_spelled : (n : NodeId) → KeepsNode n → node_id n (written_node n)
node_spelled n kept =
    let small = form_is_small (shortest n) in
    record { value = shortest n; parts = in_turn _ _ (little_bytes 1 (form_byte (shortest n))) (written_form n) (number1 (form_byte (shortest n)) (omega arith)) (form_spelled n kept) }

-- ---- ExpandedNodeId

-- the three parts of the first byte
pub record HeadParts (k byte : ℕ) (uri server : Bool) : Type 0 where
  pub low : byte % 64 ≡ k
  pub high : uri ≡ has_bit 128 byte
  pub mid : server ≡ has_bit 64 byte
  pub fits : byte < 256

head_parts : (k : ℕ) (uri server : Bool) → k < 6 → HeadParts k (k + flag 128 uri + flag 64 server) uri server
head_parts k true true lt =
    let high : (k + 128 + 64) / 128 % 2 ≡ 1 = omega arith in
    let mid : (k + 128 + 64) / 64 % 2 ≡ 1 = omega arith in
    record { low = omega arith; high = sym (ap (λ (n : ℕ). eqb n 1) high); mid = sym (ap (λ (n : ℕ). eqb n 1) mid); fits = omega arith }
head_parts k true false lt =
    let high : (k + 128 + 0) / 128 % 2 ≡ 1 = omega arith in
    let mid : (k + 128 + 0) / 64 % 2 ≡ 0 = omega arith in
    record { low = omega arith; high = sym (ap (λ (n : ℕ). eqb n 1) high); mid = sym (ap (λ (n : ℕ). eqb n 1) mid); fits = omega arith }
head_parts k false true lt =
    let high : (k + 0 + 64) / 128 % 2 ≡ 0 = omega arith in
    let mid : (k + 0 + 64) / 64 % 2 ≡ 1 = omega arith in
    record { low = omega arith; high = sym (ap (λ (n : ℕ). eqb n 1) high); mid = sym (ap (λ (n : ℕ). eqb n 1) mid); fits = omega arith }
head_parts k false false lt =
    let high : (k + 0 + 0) / 128 % 2 ≡ 0 = omega arith in
    let mid : (k + 0 + 0) / 64 % 2 ≡ 0 = omega arith in
    record { low = omega arith; high = sym (ap (λ (n : ℕ). eqb n 1) high); mid = sym (ap (λ (n : ℕ). eqb n 1) mid); fits = omega arith }

null_left_out : (o : Option (List ℕ)) → KeepsText o → optional (is_some o) None text o (unless_null o)
null_left_out None kept = (refl, refl)
null_left_out (Some run) kept = text_spelled (Some run) kept

zero_left_out : (n : ℕ) → n < 2 ^ 32 → (b : Bool) → eqb n 0 ≡ b → optional (not b) 0 (number 4) n (cond b [] (little_bytes 4 n))
zero_left_out n lt true e = (eqb-true n 0 e, refl)
zero_left_out n lt false e = number4 n lt

pub expanded_spelled : (e : ExpandedNodeId) → KeepsExpanded e → expanded_node_id e (written_expanded e)
expanded_spelled e kept =
    let p = head_parts (form_byte (shortest e.node)) (is_some e.uri) (not (eqb e.server 0)) (form_is_small (shortest e.node)) in
    record {
      value = record { form = shortest e.node; has_uri = is_some e.uri; has_server = not (eqb e.server 0) };
      parts = in_turn _ _ (little_bytes 1 (written_head e)) (written_form e.node ++ unless_null e.uri ++ unless_zero e.server) (written_head e, p.low, p.high, p.mid, number1 (written_head e) p.fits)
          (record {
            front = written_form e.node;
            back = unless_null e.uri ++ unless_zero e.server;
            first = form_spelled e.node kept.0;
            second = in_turn _ _ (unless_null e.uri) (unless_zero e.server) (null_left_out e.uri kept.1) (zero_left_out e.server kept.2 (eqb e.server 0) refl);
            whole = append_assoc (written_form e.node) (unless_null e.uri) (unless_zero e.server);
          });
    }

-- ---- QualifiedName, LocalizedText and ExtensionObject

pub qualified_spelled : (q : QualifiedName) → KeepsQualified q → qualified_name q (written_qualified q)
qualified_spelled q kept = in_turn (number 2 q.namespace) (text q.name) (little_bytes 2 q.namespace) (written_text q.name) (number2 q.namespace kept.0) (text_spelled q.name kept.1)

localized_by : (l t : Option (List ℕ)) → KeepsText l → KeepsText t → localized_text (record { locale = l; text = t }) (written_localized (record { locale = l; text = t }))
localized_by None None p q = record { value = 0; parts = in_turn _ _ (little_bytes 1 0) (unless_null None ++ unless_null None) (number1 0 (omega arith)) (in_turn _ _ (unless_null None) (unless_null None) (null_left_out None p) (null_left_out None q)) }
localized_by None (Some t) p q = record { value = 2; parts = in_turn _ _ (little_bytes 1 2) (unless_null None ++ unless_null (Some t)) (number1 2 (omega arith)) (in_turn _ _ (unless_null None) (unless_null (Some t)) (null_left_out None p) (null_left_out (Some t) q)) }
localized_by (Some l) None p q = record { value = 1; parts = in_turn _ _ (little_bytes 1 1) (unless_null (Some l) ++ unless_null None) (number1 1 (omega arith)) (in_turn _ _ (unless_null (Some l)) (unless_null None) (null_left_out (Some l) p) (null_left_out None q)) }
localized_by (Some l) (Some t) p q = record { value = 3; parts = in_turn _ _ (little_bytes 1 3) (unless_null (Some l) ++ unless_null (Some t)) (number1 3 (omega arith)) (in_turn _ _ (unless_null (Some l)) (unless_null (Some t)) (null_left_out (Some l) p) (null_left_out (Some t) q)) }

pub localized_spelled : (t : LocalizedText) → KeepsLocalized t → localized_text t (written_localized t)
localized_spelled t kept = localized_by t.locale t.text kept.0 kept.1

body_spelled : (b : ExtensionBody) → KeepsBody b → extension_body b (written_body b)
body_spelled extension.Absent kept = record { value = kind.Absent; parts = record { front = little_bytes 1 0; back = []; first = number1 0 (omega arith); second = (refl, refl); whole = refl } }
body_spelled (extension.Binary run) kept = record { value = kind.Binary; parts = in_turn _ _ (little_bytes 1 1) (written_text run) (number1 1 (omega arith)) (run, refl, text_spelled run kept) }
body_spelled (extension.Xml run) kept = record { value = kind.Xml; parts = in_turn _ _ (little_bytes 1 2) (written_text run) (number1 2 (omega arith)) (run, refl, text_spelled run kept) }

pub extension_spelled : (x : ExtensionObject) → KeepsExtension x → extension_object x (written_extension x)
extension_spelled x kept = in_turn (node_id x.type_id) (extension_body x.body) (written_node x.type_id) (written_body x.body) (node_spelled x.type_id kept.0) (body_spelled x.body kept.1)

-- ---- arrays

elements_spelled : {A : Type 0} (keeps : A → Type 0) (spells : A → List ℕ → Type 0) (written : A → List ℕ) → ((a : A) → keeps a → spells a (written a))
    → (items : List A) → AllByRecursion keeps items → elements spells items (flat_map written items)
elements_spelled keeps spells written each [] kept = refl
elements_spelled keeps spells written each (a ∷ more) kept =
    subst (λ (l : List ℕ). elements spells (a ∷ more) l) (sym (flat_map-cons written a more))
    (in_turn (spells a) (elements spells more) (written a) (flat_map written more) (each a kept.0) (elements_spelled keeps spells written each more kept.1))

pub array_within_spelled : {A : Type 0} (most : ℕ) → most < 2 ^ 31 → (keeps : A → Type 0) (spells : A → List ℕ → Type 0) (written : A → List ℕ) → ((a : A) → keeps a → spells a (written a))
    → (items : List A) → KeepsArrayWithin most keeps items → array_within most spells items (written_array written items)
array_within_spelled most small keeps spells written each items kept =
    let long : length items % 2 ^ 32 ≡ length items = omega arith in
    inr (
      kept.0,
      in_turn (number 4 (length items)) (elements spells items) (little_bytes 4 (length items % 2 ^ 32)) (flat_map written items)
          (subst (λ (n : ℕ). number 4 (length items) (little_bytes 4 n)) (sym long) (number4 (length items) (omega arith))) (elements_spelled keeps spells written each items kept.1),
    )

pub array_spelled : {A : Type 0} (keeps : A → Type 0) (spells : A → List ℕ → Type 0) (written : A → List ℕ) → ((a : A) → keeps a → spells a (written a))
    → (items : List A) → KeepsArray keeps items → array spells items (written_array written items)
array_spelled keeps spells written each items kept = array_within_spelled most_items (omega arith) keeps spells written each items kept
