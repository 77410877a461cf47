-- The body of a message: the NodeId of its structure's encoding, and the structure (OPC 10000-6, 5.2.9). A structure stands in an
-- ExtensionObject in the same way (5.2.2.15).
use Rattle.std.specs.Prelude.{◌≡◌, ◌≢◌, ◌==◌, ◌≤◌, ◌<◌, ℕ, ◌^◌, List, [], ◌++◌, length, take, Option, Some, None, Result, Ok, Err, nat_lt, if◌then◌else◌, ◌⊎◌}
use Rattle.std.specs.List.{find}
use Rattle.ua_base.specs.Status.{bad_decoding_error}
use Rattle.ua_values.specs.declared.node.NodeId.{NodeId}
use Rattle.ua_values.specs.declared.node.NodeId.TheVariants as node
use Rattle.ua_values.specs.declared.extension.ExtensionObject.{ExtensionObject}
use Rattle.ua_values.specs.declared.extension.ExtensionBody.{ExtensionBody}
use Rattle.ua_values.specs.declared.extension.ExtensionBody.TheVariants as extension
use Rattle.ua_values.specs.declared.fault.ValueFault.{ValueFault}
use Rattle.ua_values.specs.declared.fault.ValueFault.TheVariants as faults
use Rattle.ua_values.specs.Reading.{Input, input, Reader, Fault, Short, Bad, ◌>>=◌, give}
use Rattle.ua_values.specs.Parts.{◌followed_by◌, ChainCut, Begun}
use Rattle.ua_values.specs.Codec.{Reads}
use Rattle.ua_values.specs.Types.{node_id}
use Rattle.ua_values.specs.Readers.{node_at}
use Rattle.ua_values.specs.Written.{written_node}
use Rattle.ua_values.specs.Answer.{EndsEarly, IsFault}
use Rattle.ua_values.proofs.Nesting.{reads_mapped}
use Rattle.ua_structures.specs.declared.body.BodyFault.{BodyFault}
use Rattle.ua_structures.specs.declared.body.BodyFault.TheVariants as body
use Rattle.ua_structures.specs.declared.front.BodyType.{BodyType}
use Rattle.ua_structures.specs.Form.{Form}

-- ---- the grammar

-- a numeric id of the namespace 0 says a type; of any other NodeId the number is 0, which is no structure's
abbrev pub type_number : NodeId → ℕ
type_number (node.Numeric namespace id) = if namespace == 0 then id else 0
type_number (node.Text namespace id) = 0
type_number (node.Guid namespace id) = 0
type_number (node.Opaque namespace id) = 0

abbrev pub type_id : ℕ → List ℕ → Type 0
type_id n bytes = (id : NodeId) × (n ≡ type_number id) × node_id id bytes

-- the structure that stands behind one type, as a value of a family
pub record Case (A : Type 0) : Type 1 where
  pub spells : A → List ℕ → Type 0
  pub cut : List ℕ → Type 0
  pub at : Reader A
  pub reads : Reads spells cut at

abbrev pub case : {P A : Type 0} → Form P → (P → A) → Case A
case {P = P} form make = record {
  spells = λ a bytes. (p : P) × (a ≡ make p) × form.spells p bytes;
  cut = form.cut;
  at = form.at >>= λ p. give (make p);
  reads = reads_mapped form.spells form.cut form.at make form.reads;
}

-- structures of which one may be meant, by their types
pub record Family (K A : Type 0) : Type 1 where
  -- all of them
  pub all : List K
  -- the number of each one's type
  pub id : K → ℕ
  pub cases : K → Case A
  -- no two have one number
  pub known : (k : K) → find (λ other. id other == id k) all ≡ Some k
  pub small : (k : K) → id k < 2 ^ 32

-- a body of this value
abbrev pub is_body : {K A : Type 0} → Family K A → A → List ℕ → Type 0
is_body {K = K} family a bytes = (k : K) × (type_id (family.id k) followed_by (family.cases k).spells a) bytes

-- no structure of the family has this type
abbrev pub is_foreign : {K A : Type 0} → Family K A → ℕ → Type 0
is_foreign {K = K} family n = (k : K) → family.id k ≢ n

-- the front of a body says either a value, or a foreign type, behind which nothing is looked at
pub data Opened (A : Type 0) : Type 0 where
  Unknown : ℕ → Opened A
  Known : A → Opened A

abbrev pub opened : {K A : Type 0} → Family K A → Opened A → List ℕ → Type 0
opened family (Known a) bytes = is_body family a bytes
opened family (Unknown n) bytes = is_foreign family n × type_id n bytes

-- which structure has this type
abbrev pub service : {K A : Type 0} → Family K A → ℕ → Option K
service family n = find (λ k. family.id k == n) family.all

abbrev pub cut_behind : {K A : Type 0} → (K → Case A) → Option K → List ℕ → Type 0
cut_behind cases (Some k) = (cases k).cut
cut_behind cases None = λ bytes. ⊥

-- the bytes end inside the type, or inside the structure
abbrev pub opened_cut : {K A : Type 0} → Family K A → List ℕ → Type 0
opened_cut family = ChainCut type_id (Begun type_id) (λ n. cut_behind family.cases (service family n))

-- ---- reading

abbrev pub type_at : Reader ℕ
type_at = do
  id ← node_at
  give (type_number id)

abbrev pub behind_at : {K A : Type 0} → (K → Case A) → ℕ → Option K → Reader (Opened A)
behind_at cases n (Some k) = (cases k).at >>= λ a. give (Known a)
behind_at cases n None = give (Unknown n)

abbrev pub opened_at : {K A : Type 0} → Family K A → Reader (Opened A)
opened_at family = do
  n ← type_at
  behind_at family.cases n (service family n)

-- a body of so many bytes that ends early does so at its end; what is left over is a fault at its first byte
abbrev pub whole : {A : Type 0} → ℕ → A → ℕ → Result A BodyFault
whole long a place = if nat_lt place long then Err (body.Bad place bad_decoding_error) else Ok a

abbrev pub failed : {A : Type 0} → ℕ → Fault → Result A BodyFault
failed long Short = Err (body.Bad long bad_decoding_error)
failed long (Bad place code) = Err (body.Bad place code)

abbrev pub taken_whole : {A : Type 0} → ℕ → Result (A × Input) Fault → Result A BodyFault
taken_whole long (Ok x) = whole long x.0 x.1.place
taken_whole long (Err fault) = failed long fault

abbrev pub judged_opened : {A : Type 0} → ℕ → Result (Opened A × Input) Fault → Result A BodyFault
judged_opened long (Ok (Known a, after)) = whole long a after.place
judged_opened long (Ok (Unknown n, after)) = Err (body.Unknown n)
judged_opened long (Err fault) = failed long fault

abbrev pub body_at : {K A : Type 0} → Family K A → List ℕ → Result A BodyFault
body_at family bytes = judged_opened (length bytes) (opened_at family (input 0 bytes))

-- the type that a body begins with, and the place of the first byte behind it
abbrev pub judged_type : ℕ → Result (ℕ × Input) Fault → Result BodyType BodyFault
judged_type long (Ok x) = Ok (record { id = x.0; place = x.1.place })
judged_type long (Err fault) = failed long fault

abbrev pub body_type_at : List ℕ → Result BodyType BodyFault
body_type_at bytes = judged_type (length bytes) (type_at (input 0 bytes))

-- the same of what a cursor's call answered, and where the cursor stands
abbrev pub body_fault : ℕ → ValueFault → BodyFault
body_fault long faults.Short = body.Bad long bad_decoding_error
body_fault long (faults.Bad place code) = body.Bad place code
body_fault long faults.OutOfMemory = body.OutOfMemory

abbrev pub finished : {X : Type 0} → ℕ → Result X ValueFault → ℕ → Result X BodyFault
finished long (Ok x) place = whole long x place
finished long (Err fault) place = Err (body_fault long fault)

-- what a call answered is this, unless memory was refused
abbrev pub Answers : {A : Type 0} → Result A BodyFault → Result A BodyFault → Type 0
Answers (Ok a) read = read ≡ Ok a
Answers (Err (body.Unknown n)) read = read ≡ Err (body.Unknown n)
Answers (Err (body.Bad place code)) read = read ≡ Err (body.Bad place code)
Answers (Err body.OutOfMemory) read = Unit {0}

-- ---- the same in the words of the grammar

-- the bytes are no body, whole from end to end: they end inside what is spelled, or go on behind a whole body, or a field breaks a rule
abbrev pub IsBadBody : {A O : Type 0} → (A → List ℕ → Type 0) → (O → List ℕ → Type 0) → (List ℕ → Type 0) → List ℕ → ℕ → ℕ → Type 0
IsBadBody {A = A} is_whole spells cut bytes place code =
    ((code ≡ bad_decoding_error) × (place ≡ length bytes) × EndsEarly spells cut bytes)
    ⊎ ((code ≡ bad_decoding_error) × (place < length bytes) × ((a : A) × is_whole a (take place bytes)))
    ⊎ IsFault spells cut bytes place code

abbrev pub IsBodyRead : {K A : Type 0} → Family K A → List ℕ → Result A BodyFault → Type 0
IsBodyRead family bytes (Ok a) = is_body family a bytes
IsBodyRead family bytes (Err (body.Unknown n)) = is_foreign family n × ((size : ℕ) × (size ≤ length bytes) × type_id n (take size bytes))
IsBodyRead family bytes (Err (body.Bad place code)) = IsBadBody (is_body family) (opened family) (opened_cut family) bytes place code
IsBodyRead family bytes (Err body.OutOfMemory) = Unit {0}

-- the type stands at the front; else the bytes end inside it, or it has no form or is too long
abbrev pub IsTypeRead : List ℕ → Result BodyType BodyFault → Type 0
IsTypeRead bytes (Ok t) = (t.place ≤ length bytes) × type_id t.id (take t.place bytes)
IsTypeRead bytes (Err (body.Unknown n)) = ⊥
IsTypeRead bytes (Err (body.Bad place code)) =
    ((code ≡ bad_decoding_error) × (place ≡ length bytes) × EndsEarly type_id (Begun type_id) bytes)
    ⊎ IsFault type_id (Begun type_id) bytes place code
IsTypeRead bytes (Err body.OutOfMemory) = Unit {0}

-- ---- writing

-- the shortest spelling of the type
abbrev pub written_type : ℕ → List ℕ
written_type n = written_node (node.Numeric 0 n)

-- the type, and the structure's text
abbrev pub written_body : ℕ → List ℕ → List ℕ
written_body n text = written_type n ++ text

-- how a value is written: which structure it is, its text, and whether it keeps the rules
pub record Put (K : Type 0) : Type 1 where
  pub kind : K
  pub text : List ℕ
  pub keeps : Type 0

abbrev pub put : {K P : Type 0} → K → Form P → P → Put K
put kind form p = record { kind = kind; text = form.written p; keeps = form.keeps p }

abbrev pub number_by : {K A : Type 0} → Family K A → (A → Put K) → A → ℕ
number_by family puts a = family.id (puts a).kind

abbrev pub written_by : {K A : Type 0} → Family K A → (A → Put K) → A → List ℕ
written_by family puts a = written_body (number_by family puts a) (puts a).text

-- what holds of a family's bodies
pub record AreLawful {K A : Type 0} (family : Family K A) (puts : A → Put K) : Type 0 where
  -- no body is a proper front of another, and bytes are the body of one value at most
  pub apart : (a b : A) (text more : List ℕ) → is_body family a text → is_body family b (text ++ more) → (more ≡ []) × (a ≡ b)
  -- what is written of a value that keeps the rules is a body of it
  pub spelled : (a : A) → (puts a).keeps → is_body family a (written_by family puts a)
  -- and is read again
  pub again : (a : A) → (puts a).keeps → body_at family (written_by family puts a) ≡ Ok a

-- what stands behind a type that no structure of the family has isn't looked at
pub record IsForeignUnknown {K A : Type 0} (family : Family K A) : Type 0 where
  -- however the type is spelled
  pub spelled : (n : ℕ) (front text : List ℕ) → type_id n front → service family n ≡ None → body_at family (front ++ text) ≡ Err (body.Unknown n)
  -- so where it is written
  pub written : (n : ℕ) (text : List ℕ) → n < 2 ^ 32 → service family n ≡ None → body_at family (written_type n ++ text) ≡ Err (body.Unknown n)
  -- and where it is read
  pub read : (bytes : List ℕ) (t : BodyType) → body_type_at bytes ≡ Ok t → service family t.id ≡ None → body_at family bytes ≡ Err (body.Unknown t.id)

-- ---- a structure in an ExtensionObject

-- the bytes that stand in it
abbrev pub held_bytes : ExtensionBody → Option (List ℕ)
held_bytes (extension.Binary run) = run
held_bytes (extension.Xml text) = None
held_bytes extension.Absent = None

abbrev pub content_at : {K A : Type 0} → Family K A → ℕ → Option K → Option (List ℕ) → Result A BodyFault
content_at family n None held = Err (body.Unknown n)
content_at family n (Some k) None = Err (body.Bad 0 bad_decoding_error)
content_at family n (Some k) (Some bytes) = taken_whole (length bytes) ((family.cases k).at (input 0 bytes))

abbrev pub object_at : {K A : Type 0} → Family K A → ExtensionObject → Result A BodyFault
object_at family x = content_at family (type_number x.type_id) (service family (type_number x.type_id)) (held_bytes x.body)

-- an object that holds this value
abbrev pub holds : {K A : Type 0} → Family K A → A → ExtensionObject → Type 0
holds {K = K} family a x = (k : K) × (bytes : List ℕ) × (type_number x.type_id ≡ family.id k) × (held_bytes x.body ≡ Some bytes) × (family.cases k).spells a bytes

-- the object has no bytes, or its bytes are no spelling of the structure that its type says
abbrev pub IsBadContent : {A : Type 0} → Case A → Option (List ℕ) → ℕ → ℕ → Type 0
IsBadContent one None place code = (place ≡ 0) × (code ≡ bad_decoding_error)
IsBadContent one (Some bytes) place code = IsBadBody one.spells one.spells one.cut bytes place code

abbrev pub IsContentRead : {K A : Type 0} → Family K A → ExtensionObject → Result A BodyFault → Type 0
IsContentRead family x (Ok a) = holds family a x
IsContentRead family x (Err (body.Unknown n)) = (type_number x.type_id ≡ n) × is_foreign family n
IsContentRead {K = K} family x (Err (body.Bad place code)) = (k : K) × (type_number x.type_id ≡ family.id k) × IsBadContent (family.cases k) (held_bytes x.body) place code
IsContentRead family x (Err body.OutOfMemory) = Unit {0}

-- the object of this type with these bytes
abbrev pub object_of : ℕ → List ℕ → ExtensionObject
object_of n text = record { type_id = node.Numeric 0 n; body = extension.Binary (Some text) }

abbrev pub object_by : {K A : Type 0} → Family K A → (A → Put K) → A → ExtensionObject
object_by family puts a = object_of (number_by family puts a) (puts a).text

pub record AreHeld {K A : Type 0} (family : Family K A) (puts : A → Put K) : Type 0 where
  -- an object holds one value at most
  pub apart : (a b : A) (x : ExtensionObject) → holds family a x → holds family b x → a ≡ b
  -- the object that is made of a value that keeps the rules holds it
  pub held : (a : A) → (puts a).keeps → holds family a (object_by family puts a)
  -- and is read again
  pub again : (a : A) → (puts a).keeps → object_at family (object_by family puts a) ≡ Ok a
