-- Each type's reader reads its grammar.
use Rattle.std.proofs.Common.{◌≡◌, ℕ, zero, suc, ◌%◌, ◌^◌, ◌≤◌, ◌<◌, Bool, true, false, not, cond, ltb, leb, eqb, List, [], ◌∷◌, ◌++◌, length, Option, Some, None, Result, Ok, Err, refl, sym, ap, subst, ◌∙◌, arith, inl, inr}
use Rattle.std.specs.Int.{Width, cast_signed}
use Rattle.std.proofs.lemmas.Bool.{eqb-true}
use Rattle.std.proofs.lemmas.Bool.Decides.{nat_tests}
use Rattle.std.proofs.lemmas.List.{append-nil}
use Rattle.byteorder.specs.Endian.{little_number}
use Rattle.uuid.specs.Parts.{swap_fields}
use Rattle.ua_base.specs.Status.{bad_decoding_error, bad_encoding_limits_exceeded}
use Rattle.ua_values.specs.Limits.{most_bytes}
use Rattle.ua_values.specs.declared.node.NodeId.TheVariants as node
use Rattle.ua_values.specs.declared.node.Form.{Form}
use Rattle.ua_values.specs.declared.node.Form.TheVariants as form
use Rattle.ua_values.specs.declared.node.Head.{Head}
use Rattle.ua_values.specs.declared.node.ExpandedNodeId.{ExpandedNodeId}
use Rattle.ua_values.specs.declared.names.QualifiedName.{QualifiedName}
use Rattle.ua_values.specs.declared.names.LocalizedText.{LocalizedText}
use Rattle.ua_values.specs.declared.extension.ExtensionObject.{ExtensionObject}
use Rattle.ua_values.specs.declared.extension.ExtensionBody.TheVariants as extension
use Rattle.ua_values.specs.declared.extension.BodyKind.{BodyKind}
use Rattle.ua_values.specs.declared.extension.BodyKind.TheVariants as kind
use Rattle.ua_values.specs.Reading.{◌>>=◌, give, run_at, field_at, number_at}
use Rattle.ua_values.specs.Parts.{number, optional, ◌followed_by◌, Chained, text, IsRefused}
use Rattle.ua_values.specs.Codec.{IsCodec}
use Rattle.ua_values.specs.Readers.{boolean_at, signed_at, guid_at, length_of, run_of, text_at, form_of, form_body_at, node_at, has_bit, with_flags, head_of, optional_at, expanded_at, qualified_at, localized_at, kind_of, kind_body_at, body_at, extension_at}
use Rattle.ua_values.specs.Types.{boolean, signed, guid, form_byte, form_body, node_id, head_byte, head_body, expanded_node_id, qualified_name, mask_body, localized_text, kind_byte, kind_body, extension_body, extension_object}
use Rattle.ua_values.proofs.Chain.{same, chain}
use Rattle.ua_values.proofs.Leaves.{given, give_codec, run, run_codec, field, Completed, IsField, field_codec, number_codec}
use Rattle.ua_values.proofs.Fields.{Mapped, mapped, made_of, optional_codec, goes_on, begins, ends}

pub byte_codec : IsCodec (number 1) (number_at 1)
byte_codec = number_codec 1 (omega arith)

pub number16_codec : IsCodec (number 2) (number_at 2)
number16_codec = number_codec 2 (omega arith)

pub number32_codec : IsCodec (number 4) (number_at 4)
number32_codec = number_codec 4 (omega arith)

pub number64_codec : IsCodec (number 8) (number_at 8)
number64_codec = number_codec 8 (omega arith)

pub signed_codec : (w : ℕ) (width : Width) → zero < w → IsCodec (signed w width) (signed_at w width)
signed_codec w width some = mapped (number w) (number_at w) (cast_signed width) (number_codec w some)

-- ---- Boolean

true_not_false : true ≡ false → ⊥
true_not_false e = cc

not_zero : (n : ℕ) → 0 < n → true ≡ not (eqb n 0)
not_zero zero lt = absurd (omega arith)
not_zero (suc n) lt = let test : eqb (suc n) 0 ≡ false = grind (arith, nat_tests) in rw test refl

bool_to : (b : Bool) (n : ℕ) (bytes : List ℕ) → b ≡ not (eqb n 0) → number 1 n bytes → boolean b bytes
bool_to false zero bytes e s = s
bool_to false (suc n) bytes e s = absurd (true_not_false (not_zero (suc n) (omega arith) ∙ sym e))
bool_to true zero bytes e s = absurd cc
bool_to true (suc n) bytes e s = (suc n, omega arith, s)

bool_from : (b : Bool) (bytes : List ℕ) → boolean b bytes → Mapped (number 1) (λ n. not (eqb n 0)) b bytes
bool_from false bytes s = (0, refl, s)
bool_from true bytes s = (s.0, not_zero s.0 s.1, s.2)

pub boolean_codec : IsCodec boolean boolean_at
boolean_codec = same (Mapped (number 1) (λ n. not (eqb n 0))) boolean boolean_at (λ b bytes m. bool_to b m.0 bytes m.1 m.2) bool_from (mapped (number 1) (number_at 1) (λ n. not (eqb n 0)) byte_codec)

-- ---- Guid

pub guid_codec : IsCodec guid guid_at
guid_codec = same (Mapped (run 16) swap_fields) guid guid_at
    (λ g bytes m. (ap length m.2.1 ∙ m.2.0, m.1 ∙ ap swap_fields (sym m.2.1)))
    (λ g bytes s. (bytes, s.1, (s.0, refl)))
    (mapped (run 16) (run_at 16) swap_fields (run_codec 16))

-- ---- texts

none_not_some : {A : Type 0} (a : A) → ◌≡◌ {A = Option A} None (Some a) → ⊥
none_not_some a e = cc

some_is : {A : Type 0} (a b : A) → ◌≡◌ {A = Option A} (Some a) (Some b) → a ≡ b
some_is a b e = cc

abbrev LengthSays : ℕ → Option ℕ → Type 0
LengthSays n None = 2 ^ 31 ≤ n
LengthSays n (Some k) = (n ≡ k) × (k ≤ most_bytes)

length_null : (n : ℕ) → 2 ^ 31 ≤ n → length_of n ≡ Ok None
length_null n le = let test : leb (2 ^ 31) n ≡ true = grind (arith, nat_tests) in rw test refl

length_some : (n : ℕ) → n ≤ most_bytes → length_of n ≡ Ok (Some n)
length_some n le =
    let negative : leb (2 ^ 31) n ≡ false = grind (arith, nat_tests) in
    let large : ltb most_bytes n ≡ false = grind (arith, nat_tests) in
    rw (negative, large) refl

abbrev judged_length : Bool → Bool → ℕ → Result (Option ℕ) ℕ
judged_length b c n = cond b (Ok None) (cond c (Err bad_encoding_limits_exceeded) (Ok (Some n)))

length_says : (b c : Bool) (n : ℕ) (m : Option ℕ) → leb (2 ^ 31) n ≡ b → ltb most_bytes n ≡ c → judged_length b c n ≡ Ok m → LengthSays n m
length_says true c n None p q e = grind (arith, nat_tests)
length_says true c n (Some k) p q e = absurd cc
length_says false true n m p q e = absurd cc
length_says false false n None p q e = absurd cc
length_says false false n (Some k) p q e =
    let is : n ≡ k = cc in
    let within : n ≤ most_bytes = grind (arith, nat_tests) in
    (is, omega arith)

length_refuses : (b c : Bool) (n : ℕ) (code : ℕ) → judged_length b c n ≡ Err code → IsRefused code 4
length_refuses true c n code e = absurd cc
length_refuses false true n code e = let is : code ≡ bad_encoding_limits_exceeded = cc in inr (inl (is, refl))
length_refuses false false n code e = absurd cc

-- a length that is cut off may be a negative one
cut_length : (front : List ℕ) → length front < 4 → Completed 4 length_of front
cut_length [] lt = record { more = 255 ∷ 255 ∷ 255 ∷ 255 ∷ []; long = refl; value = None; means = refl }
cut_length (a ∷ []) lt = record { more = 255 ∷ 255 ∷ 255 ∷ []; long = refl; value = None; means = length_null (little_number 4 (a ∷ 255 ∷ 255 ∷ 255 ∷ [])) (omega arith) }
cut_length (a ∷ b ∷ []) lt = record { more = 255 ∷ 255 ∷ []; long = refl; value = None; means = length_null (little_number 4 (a ∷ b ∷ 255 ∷ 255 ∷ [])) (omega arith) }
cut_length (a ∷ b ∷ c ∷ []) lt = record { more = 255 ∷ []; long = refl; value = None; means = length_null (little_number 4 (a ∷ b ∷ c ∷ 255 ∷ [])) (omega arith) }
cut_length (a ∷ b ∷ c ∷ d ∷ more) lt = absurd (omega arith)

length_field : IsField 4 length_of
length_field = record {
  some = omega arith;
  completes = cut_length;
  refuses = λ n code e. length_refuses (leb (2 ^ 31) n) (ltb most_bytes n) n code e;
}

abbrev run_text : Option ℕ → Option (List ℕ) → List ℕ → Type 0
run_text None o bytes = given None o bytes
run_text (Some n) o bytes = Mapped (run n) Some o bytes

run_text_codec : (n : Option ℕ) → IsCodec (run_text n) (run_of n)
run_text_codec None = give_codec None
run_text_codec (Some n) = mapped (run n) (run_at n) Some (run_codec n)

text_to : (o : Option (List ℕ)) (m : Option ℕ) (n : ℕ) (bytes front back : List ℕ) → LengthSays n m → number 4 n front → run_text m o back → bytes ≡ front ++ back → text o bytes
text_to None None n bytes front back says is after_it whole = (n, says, subst (number 4 n) (sym (whole ∙ ap (λ (l : List ℕ). front ++ l) after_it.1 ∙ append-nil front)) is)
text_to None (Some k) n bytes front back says is after_it whole = absurd (none_not_some after_it.0 after_it.1)
text_to (Some v) None n bytes front back says is after_it whole = absurd (none_not_some v (sym after_it.0))
text_to (Some v) (Some k) n bytes front back says is after_it whole =
    let same_run : v ≡ after_it.0 = some_is _ _ after_it.1 in
    let long : k ≡ length v = sym (ap length same_run ∙ after_it.2.0) in (
      omega (arith, says.1, long),
      record {
        front = front;
        back = back;
        first = subst (λ (l : ℕ). number 4 l front) (says.0 ∙ long) is;
        second = after_it.2.1 ∙ sym same_run;
        whole = whole;
      },
    )

text_from : (o : Option (List ℕ)) (bytes : List ℕ) → text o bytes → Chained (field 4 length_of) run_text o bytes
text_from None bytes t = record { value = None; parts = record { front = bytes; back = []; first = (t.0, length_null t.0 t.1, t.2); second = (refl, refl); whole = sym (append-nil bytes) } }
text_from (Some v) bytes t = record {
  value = Some (length v);
  parts = record { front = t.1.front; back = t.1.back; first = (length v, length_some (length v) t.0, t.1.first); second = (v, refl, (refl, t.1.second)); whole = t.1.whole };
}

pub text_codec : IsCodec text text_at
text_codec = same (Chained (field 4 length_of) run_text) text text_at
    (λ o bytes c. text_to o c.value c.parts.first.0 bytes c.parts.front c.parts.back (length_says _ _ c.parts.first.0 c.value refl refl c.parts.first.1) c.parts.first.2 c.parts.second c.parts.whole)
    text_from
    (chain (field 4 length_of) (field_at 4 length_of) run_text run_of (field_codec 4 length_of length_field) run_text_codec)

-- ---- NodeId

abbrev fine : {A : Type 0} → A → Result A ℕ
fine a = Ok a

pub fine_is : {A : Type 0} (a b : A) → fine a ≡ fine b → a ≡ b
fine_is a b e = cc

pub failed_not : {A : Type 0} (x : A) (c : ℕ) → ◌≡◌ {A = Result A ℕ} (Err c) (Ok x) → ⊥
failed_not x c e = cc

pub err_is : {A : Type 0} (c d : ℕ) → ◌≡◌ {A = Result A ℕ} (Err c) (Err d) → c ≡ d
err_is c d e = cc

pub met : {K : Type 0} (byte : K → ℕ) (n k : ℕ) (a x : K) (r : Result K ℕ) → byte a ≡ k → (r ≡ Ok x → n ≡ byte x) → (b : Bool) → eqb n k ≡ b → cond b (Ok a) r ≡ Ok x → n ≡ byte x
met byte n k a x r is others true test e = eqb-true n k test ∙ sym is ∙ ap byte (fine_is a x e)
met byte n k a x r is others false test e = others e

-- one test of a chain of them: it is met, and the byte is that of the choice, or the others are left
pub tested : {K : Type 0} (byte : K → ℕ) (n k : ℕ) (a x : K) (r : Result K ℕ) → byte a ≡ k → (r ≡ Ok x → n ≡ byte x) → cond (eqb n k) (Ok a) r ≡ Ok x → n ≡ byte x
tested byte n k a x r is others e = met byte n k a x r is others (eqb n k) refl e

pub refused : {A : Type 0} (b : Bool) (a : A) (r : Result A ℕ) (c : ℕ) → cond b (Ok a) r ≡ Err c → r ≡ Err c
refused true a r c e = absurd cc
refused false a r c e = e

form_is : (n : ℕ) (f : Form) → form_of n ≡ Ok f → n ≡ form_byte f
form_is n f =
    tested form_byte n 0 form.TwoByte f _ refl (tested form_byte n 1 form.FourByte f _ refl (tested form_byte n 2 form.Long f _ refl
    (tested form_byte n 3 form.Text f _ refl (tested form_byte n 4 form.Guid f _ refl (tested form_byte n 5 form.Opaque f (Err bad_decoding_error) refl (λ e. absurd (failed_not f bad_decoding_error e)))))))

form_refuses : (n code : ℕ) → form_of n ≡ Err code → IsRefused code 1
form_refuses n code e =
    let one = refused (eqb n 0) form.TwoByte _ code e in
    let two = refused (eqb n 1) form.FourByte _ code one in
    let three = refused (eqb n 2) form.Long _ code two in
    let four = refused (eqb n 3) form.Text _ code three in
    let five = refused (eqb n 4) form.Guid _ code four in
    let six = refused (eqb n 5) form.Opaque (Err bad_decoding_error) code five in
    inl (sym (err_is {A = Form} bad_decoding_error code six), refl)

form_says : (f : Form) → form_of (form_byte f) ≡ Ok f
form_says form.TwoByte = refl
form_says form.FourByte = refl
form_says form.Long = refl
form_says form.Text = refl
form_says form.Guid = refl
form_says form.Opaque = refl

-- a byte that chooses is cut off only where nothing of it is there
pub cut_byte : {A : Type 0} (meaning : ℕ → Result A ℕ) (a : A) (n : ℕ) → meaning (little_number 1 (n ∷ [])) ≡ Ok a → (front : List ℕ) → length front < 1 → Completed 1 meaning front
cut_byte meaning a n means [] lt = record { more = n ∷ []; long = refl; value = a; means = means }
cut_byte meaning a n means (b ∷ bs) lt = absurd (omega arith)

form_codec : IsCodec (λ f. number 1 (form_byte f)) (field_at 1 form_of)
form_codec = same (field 1 form_of) (λ f. number 1 (form_byte f)) (field_at 1 form_of)
    (λ f bytes s. subst (λ (n : ℕ). number 1 n bytes) (form_is s.0 f s.1) s.2)
    (λ f bytes s. (form_byte f, form_says f, s))
    (field_codec 1 form_of (record { some = omega arith; completes = cut_byte form_of form.TwoByte 0 refl; refuses = form_refuses }))

form_body_codec : (f : Form) → IsCodec (form_body f) (form_body_at f)
form_body_codec form.TwoByte = mapped (number 1) (number_at 1) (node.Numeric 0) byte_codec
form_body_codec form.FourByte = made_of (number 1) (number_at 1) (number 2) (number_at 2) node.Numeric byte_codec number16_codec
form_body_codec form.Long = made_of (number 2) (number_at 2) (number 4) (number_at 4) node.Numeric number16_codec number32_codec
form_body_codec form.Text = made_of (number 2) (number_at 2) text text_at node.Text number16_codec text_codec
form_body_codec form.Guid = made_of (number 2) (number_at 2) guid guid_at node.Guid number16_codec guid_codec
form_body_codec form.Opaque = made_of (number 2) (number_at 2) text text_at node.Opaque number16_codec text_codec

pub node_codec : IsCodec node_id node_at
node_codec = chain (λ f. number 1 (form_byte f)) (field_at 1 form_of) form_body form_body_at form_codec form_body_codec

-- ---- QualifiedName

pub qualified_codec : IsCodec qualified_name qualified_at
qualified_codec =
    begins (number 2) (number_at 2) (λ q. q.namespace) (λ q. text q.name) _ number16_codec
    (λ namespace. ends (λ (q : QualifiedName). q.namespace ≡ namespace) text text_at (λ q. q.name) (λ name. record { namespace = namespace; name = name })
    (λ name. refl) (λ name. refl) (λ q known. rw (← known) refl) text_codec)

-- ---- ExpandedNodeId

flags_are : (n : ℕ) (m : Result Form ℕ) (h : Head) → with_flags n m ≡ Ok h → (m ≡ Ok h.form) × (h.has_uri ≡ has_bit 128 n) × (h.has_server ≡ has_bit 64 n)
flags_are n (Ok f) h e =
    let is : record { form = f; has_uri = has_bit 128 n; has_server = has_bit 64 n } ≡ h = fine_is {A = Head} _ h e in
    (ap (λ (g : Head). Ok g.form) is, sym (ap (λ (g : Head). g.has_uri) is), sym (ap (λ (g : Head). g.has_server) is))
flags_are n (Err c) h e = absurd (failed_not {A = Head} h c e)

flags_refuse : (n : ℕ) (m : Result Form ℕ) (code : ℕ) → with_flags n m ≡ Err code → m ≡ Err code
flags_refuse n (Ok f) code e = absurd cc
flags_refuse n (Err c) code e = ap (λ (k : ℕ). Err k) (err_is {A = Head} c code e)

head_says : (h : Head) (n : ℕ) → n % 64 ≡ form_byte h.form → h.has_uri ≡ has_bit 128 n → h.has_server ≡ has_bit 64 n → head_of n ≡ Ok h
head_says h n low uri server = ap (with_flags n) (ap form_of low ∙ form_says h.form) ∙ rw (← uri, ← server) refl

head_codec : IsCodec head_byte (field_at 1 head_of)
head_codec = same (field 1 head_of) head_byte (field_at 1 head_of)
    (λ h bytes s. let f = flags_are s.0 (form_of (s.0 % 64)) h s.1 in (s.0, form_is (s.0 % 64) h.form f.0, f.1, f.2, s.2))
    (λ h bytes s. (s.0, head_says h s.0 s.1 s.2 s.3, s.4))
    (field_codec 1 head_of (record {
      some = omega arith;
      completes = cut_byte head_of (record { form = form.TwoByte; has_uri = false; has_server = false }) 0 refl;
      refuses = λ n code e. form_refuses (n % 64) code (flags_refuse n (form_of (n % 64)) code e);
    }))

head_body_codec : (h : Head) → IsCodec (head_body h) (form_body_at h.form >>= λ n. optional_at h.has_uri None text_at >>= λ u. optional_at h.has_server 0 (number_at 4) >>= λ s. give (record { node = n; uri = u; server = s }))
head_body_codec h =
    begins (form_body h.form) (form_body_at h.form) (λ e. e.node) (λ e. optional h.has_uri None text e.uri followed_by optional h.has_server 0 (number 4) e.server) _ (form_body_codec h.form)
    (λ n. goes_on (λ (e : ExpandedNodeId). e.node ≡ n) (optional h.has_uri None text) (optional_at h.has_uri None text_at) (λ e. e.uri) (λ e. optional h.has_server 0 (number 4) e.server) _
    (optional_codec text text_at None h.has_uri text_codec)
    (λ u. ends (λ (e : ExpandedNodeId). (e.node ≡ n) × (e.uri ≡ u)) (optional h.has_server 0 (number 4)) (optional_at h.has_server 0 (number_at 4)) (λ e. e.server)
    (λ s. record { node = n; uri = u; server = s }) (λ s. (refl, refl)) (λ s. refl) (λ e known. rw (← known.0, ← known.1) refl)
    (optional_codec (number 4) (number_at 4) 0 h.has_server number32_codec)))

pub expanded_codec : IsCodec expanded_node_id expanded_at
expanded_codec = chain head_byte (field_at 1 head_of) head_body _ head_codec head_body_codec

-- ---- LocalizedText

mask_body_codec : (mask : ℕ) → IsCodec (mask_body mask) (optional_at (has_bit 1 mask) None text_at >>= λ l. optional_at (has_bit 2 mask) None text_at >>= λ t. give (record { locale = l; text = t }))
mask_body_codec mask =
    begins (optional (has_bit 1 mask) None text) (optional_at (has_bit 1 mask) None text_at) (λ t. t.locale) (λ t. optional (has_bit 2 mask) None text t.text) _
    (optional_codec text text_at None (has_bit 1 mask) text_codec)
    (λ l. ends (λ (t : LocalizedText). t.locale ≡ l) (optional (has_bit 2 mask) None text) (optional_at (has_bit 2 mask) None text_at) (λ t. t.text)
    (λ s. record { locale = l; text = s }) (λ s. refl) (λ s. refl) (λ t known. rw (← known) refl)
    (optional_codec text text_at None (has_bit 2 mask) text_codec))

pub localized_codec : IsCodec localized_text localized_at
localized_codec = chain (number 1) (number_at 1) mask_body _ byte_codec mask_body_codec

-- ---- ExtensionObject

kind_is : (n : ℕ) (k : BodyKind) → kind_of n ≡ Ok k → n ≡ kind_byte k
kind_is n k =
    tested kind_byte n 0 kind.Absent k _ refl (tested kind_byte n 1 kind.Binary k _ refl (tested kind_byte n 2 kind.Xml k (Err bad_decoding_error) refl (λ e. absurd (failed_not k bad_decoding_error e))))

kind_refuses : (n code : ℕ) → kind_of n ≡ Err code → IsRefused code 1
kind_refuses n code e =
    let one = refused (eqb n 0) kind.Absent _ code e in
    let two = refused (eqb n 1) kind.Binary _ code one in
    let three = refused (eqb n 2) kind.Xml (Err bad_decoding_error) code two in
    inl (sym (err_is {A = BodyKind} bad_decoding_error code three), refl)

kind_says : (k : BodyKind) → kind_of (kind_byte k) ≡ Ok k
kind_says kind.Absent = refl
kind_says kind.Binary = refl
kind_says kind.Xml = refl

kind_codec : IsCodec (λ k. number 1 (kind_byte k)) (field_at 1 kind_of)
kind_codec = same (field 1 kind_of) (λ k. number 1 (kind_byte k)) (field_at 1 kind_of)
    (λ k bytes s. subst (λ (n : ℕ). number 1 n bytes) (kind_is s.0 k s.1) s.2)
    (λ k bytes s. (kind_byte k, kind_says k, s))
    (field_codec 1 kind_of (record { some = omega arith; completes = cut_byte kind_of kind.Absent 0 refl; refuses = kind_refuses }))

kind_body_codec : (k : BodyKind) → IsCodec (kind_body k) (kind_body_at k)
kind_body_codec kind.Absent = give_codec extension.Absent
kind_body_codec kind.Binary = mapped text text_at extension.Binary text_codec
kind_body_codec kind.Xml = mapped text text_at extension.Xml text_codec

pub body_codec : IsCodec extension_body body_at
body_codec = chain (λ k. number 1 (kind_byte k)) (field_at 1 kind_of) kind_body kind_body_at kind_codec kind_body_codec

pub extension_codec : IsCodec extension_object extension_at
extension_codec =
    begins node_id node_at (λ x. x.type_id) (λ x. extension_body x.body) _ node_codec
    (λ t. ends (λ (x : ExtensionObject). x.type_id ≡ t) extension_body body_at (λ x. x.body) (λ b. record { type_id = t; body = b })
    (λ b. refl) (λ b. refl) (λ x known. rw (← known) refl) body_codec)
