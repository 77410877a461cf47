-- What is asked by a body, in the words of the grammar.
use Rattle.std.specs.Prelude.{◌≡◌, ℕ, ◌+◌, List, [], length, take, drop, Bool, true, false, Result, Ok, Err, refl, if◌then◌else◌}
use Rattle.std.proofs.Common.{◌∙◌, ap, sym, subst, arith}
use Rattle.std.proofs.lemmas.Bool.{le-ltb}
use Rattle.std.proofs.lemmas.List.{append-nil, take-append-drop}
use Rattle.ua_values.specs.Reading.{Input, input, Fault, Short, Bad, passed}
use Rattle.ua_structures.specs.declared.header.RequestHeader.{RequestHeader}
use Rattle.ua_structures.specs.declared.body.BodyFault.{BodyFault}
use Rattle.ua_structures.specs.declared.front.BodyType.{BodyType}
use Rattle.ua_structures.specs.Body.{Known, opened_at, whole, judged_opened, judged_type, type_at, body_at, body_type_at, service, is_body, failed}
use Rattle.ua_structures.specs.Header.{head_at, header_at, judged_head}
use Rattle.ua_structures.specs.Structures.{a_request_header}
use Rattle.ua_structures.proofs.Bodies.{body_said, opened_reads, type_reads}
use Rattle.ua_structures.proofs.Headers.{head_reads, header_said}
use Rattle.ua_services.specs.declared.request.Request.{Request}
use Rattle.ua_services.specs.declared.request.RequestFault.{RequestFault}
use Rattle.ua_services.specs.declared.request.RequestFault.TheVariants as faults
use Rattle.ua_services.specs.Families.{requests, request_put}
use Rattle.ua_services.specs.Requests.{header_of, is_service, names_service, asked_by, asked_of, asked_behind, request_at, Asks, HasHeader, HasType, HasHandle, IsAsked}
use Rattle.ua_services.proofs.Asked.{asked_when_read}

-- ---- what stands at the front is read

header_front : (bytes : List ℕ) (header : RequestHeader) → HasHeader bytes header → header_at bytes ≡ Ok header
header_front bytes header has =
    let front = take has.0 bytes in
    let back = drop has.0 bytes in
    ap (λ (l : List ℕ). judged_head (length bytes) (head_at (input 0 l))) (sym (take-append-drop has.0 bytes))
    ∙ ap (judged_head (length bytes)) (head_reads.again 0 front back header has.2)

type_front : (bytes : List ℕ) (n : ℕ) (has : HasType bytes n) → type_at (input 0 bytes) ≡ Ok (n, input (0 + length (take has.0 bytes)) (drop has.0 bytes))
type_front bytes n has =
    ap (λ (l : List ℕ). type_at (input 0 l)) (sym (take-append-drop has.0 bytes)) ∙ type_reads.again 0 (take has.0 bytes) (drop has.0 bytes) n has.1

nothing_left : (long place : ℕ) (r : Request) → place ≡ long → whole long r place ≡ Ok r
nothing_left long place r ends = rw (le-ltb place long (omega arith)) refl

body_front : (bytes : List ℕ) (r : Request) → is_body requests r bytes → body_at requests bytes ≡ Ok r
body_front bytes r is =
    ap (λ (l : List ℕ). judged_opened (length bytes) (opened_at requests (input 0 l))) (sym (append-nil bytes))
    ∙ ap (judged_opened (length bytes)) ((opened_reads requests).again 0 bytes [] (Known r) is)
    ∙ nothing_left (length bytes) (0 + length bytes) r (omega arith)

-- ---- what is asked, step by step

-- how the bytes are told to ask for nothing, behind a header
record Behind (bytes : List ℕ) (fault : RequestFault) : Type 0 where
  header : RequestHeader
  type_is : BodyType
  header_read : header_at bytes ≡ Ok header
  type_read : body_type_at bytes ≡ Ok type_is
  told : asked_of header.request_handle bytes (Ok type_is) ≡ Err fault

no_header_then : (bytes : List ℕ) (fault : RequestFault) (handle : ℕ) (t : Result BodyType BodyFault) → asked_of handle bytes t ≡ Err fault → (fault ≡ faults.Header → ⊥) → (type_is : BodyType) × (t ≡ Ok type_is)
no_header_then bytes fault handle (Ok t) is other = (t, refl)
no_header_then bytes fault handle (Err e) is other = absurd (other cc)

behind_header : (bytes : List ℕ) (fault : RequestFault) (x : Result RequestHeader BodyFault) → header_at bytes ≡ x → asked_behind bytes x ≡ Err fault → (fault ≡ faults.Header → ⊥) → Behind bytes fault
behind_header bytes fault (Ok h) e is other =
    let t = no_header_then bytes fault h.request_handle (body_type_at bytes) is other in
    record { header = h; type_is = t.0; header_read = e; type_read = t.1; told = ap (asked_of h.request_handle bytes) (sym t.1) ∙ is }
behind_header bytes fault (Err f) e is other = absurd (other cc)

has_handle : (bytes : List ℕ) (fault : RequestFault) (b : Behind bytes fault) (handle : ℕ) → b.header.request_handle ≡ handle → HasHandle bytes handle
has_handle bytes fault b handle same = (b.header, header_said bytes (Ok b.header) b.header_read, same)

type_same : (x y : BodyType) → ◌≡◌ {A = Result BodyType BodyFault} (Ok x) (Ok y) → x ≡ y
type_same x y e = cc

-- the type that is read is the one that stands at the front
one_type : (bytes : List ℕ) (t : BodyType) → body_type_at bytes ≡ Ok t → (n : ℕ) → HasType bytes n → t.id ≡ n
one_type bytes t read n has =
    ap (λ (x : BodyType). x.id) (type_same t (record { id = n; place = 0 + length (take has.0 bytes) }) (sym read ∙ ap (judged_type (length bytes)) (type_front bytes n has)))

-- ---- a request

same_request : (a r : Request) → ◌≡◌ {A = Result Request RequestFault} (Ok a) (Ok r) → a ≡ r
same_request a r is = cc

asked_ok : (handle : ℕ) (read : Result Request BodyFault) (r : Request) → asked_by handle read ≡ Ok r → read ≡ Ok r
asked_ok handle (Ok a) r is = ap (λ (x : Request). Ok x) (same_request a r is)
asked_ok handle (Err f) r is = absurd cc

named_ok : (bytes : List ℕ) (handle : ℕ) (r : Request) (b : Bool) → (if b then asked_by handle (body_at requests bytes) else Err (faults.Service handle)) ≡ Ok r → body_at requests bytes ≡ Ok r
named_ok bytes handle r true is = asked_ok handle (body_at requests bytes) r is
named_ok bytes handle r false is = absurd cc

typed_ok : (bytes : List ℕ) (handle : ℕ) (r : Request) (t : Result BodyType BodyFault) → asked_of handle bytes t ≡ Ok r → body_at requests bytes ≡ Ok r
typed_ok bytes handle r (Ok t) is = named_ok bytes handle r (names_service (service requests t.id)) is
typed_ok bytes handle r (Err f) is = absurd cc

behind_ok : (bytes : List ℕ) (r : Request) (x : Result RequestHeader BodyFault) → asked_behind bytes x ≡ Ok r → body_at requests bytes ≡ Ok r
behind_ok bytes r (Ok h) is = typed_ok bytes h.request_handle r (body_type_at bytes) is
behind_ok bytes r (Err f) is = absurd cc

service_of : (r : Request) (fault : RequestFault) (b : Bool) → (if b then Ok r else Err fault) ≡ Ok r → b ≡ true
service_of r fault true is = refl
service_of r fault false is = absurd cc

request_said : (bytes : List ℕ) (r : Request) → request_at bytes ≡ Ok r → IsAsked bytes (Ok r)
request_said bytes r is =
    let read = behind_ok bytes r (header_at bytes) is in
    (body_said requests bytes (Ok r) read, service_of r (faults.Service (header_of r).request_handle) (is_service (request_put r).kind) (sym (asked_when_read bytes r read) ∙ is))

-- ---- no header

not_header : (handle : ℕ) (read : Result Request BodyFault) → asked_by handle read ≡ Err faults.Header → ⊥
not_header handle (Ok r) is = absurd cc
not_header handle (Err f) is = absurd cc

named_not_header : (handle : ℕ) (read : Result Request BodyFault) (b : Bool) → (if b then asked_by handle read else Err (faults.Service handle)) ≡ Err faults.Header → ⊥
named_not_header handle read true is = not_header handle read is
named_not_header handle read false is = absurd cc

failed_head : (long : ℕ) (header : RequestHeader) (f : Fault) → failed {A = RequestHeader} long f ≡ Ok header → ⊥
failed_head long header Short is = absurd cc
failed_head long header (Bad place code) is = absurd cc

head_type : (bytes : List ℕ) (header : RequestHeader) → (x : Result (ℕ × Input) Fault) → type_at (input 0 bytes) ≡ x → (y : Result RequestHeader BodyFault)
    → header_at bytes ≡ y → y ≡ Ok header → (t : BodyType) × (body_type_at bytes ≡ Ok t)
head_type bytes header (Ok x) e y read is = (record { id = x.0; place = x.1.place }, ap (judged_type (length bytes)) e)
head_type bytes header (Err f) e y read is =
    absurd (failed_head (length bytes) header f (sym (ap (λ (r : Result (ℕ × Input) Fault). judged_head (length bytes) (passed r (λ n. a_request_header.at))) e) ∙ read ∙ is))

header_refused : (bytes : List ℕ) → request_at bytes ≡ Err faults.Header → IsAsked bytes (Err faults.Header)
header_refused bytes is header has =
    let read = header_front bytes header has in
    let t = head_type bytes header (type_at (input 0 bytes)) refl (header_at bytes) refl read in
    named_not_header header.request_handle (body_at requests bytes) (names_service (service requests t.0.id))
    (sym (ap (asked_behind bytes) read ∙ ap (asked_of header.request_handle bytes) t.1) ∙ is)

-- ---- a header, and no service

no_service : (bytes : List ℕ) (handle other : ℕ) (read : Result Request BodyFault) (b : Bool) → (if b then asked_by handle read else Err (faults.Service handle)) ≡ Err (faults.Service other)
    → (b ≡ false) × (handle ≡ other)
no_service bytes handle other (Ok r) true is = absurd cc
no_service bytes handle other (Err f) true is = absurd cc
no_service bytes handle other read false is = (refl, cc)

service_refused : (bytes : List ℕ) (handle : ℕ) → request_at bytes ≡ Err (faults.Service handle) → IsAsked bytes (Err (faults.Service handle))
service_refused bytes handle is =
    let b = behind_header bytes (faults.Service handle) (header_at bytes) refl is (λ e. absurd cc) in
    let no = no_service bytes b.header.request_handle handle (body_at requests bytes) (names_service (service requests b.type_is.id)) b.told in (
      has_handle bytes (faults.Service handle) b handle no.1,
      λ n has. subst (λ (m : ℕ). names_service (service requests m) ≡ false) (one_type bytes b.type_is b.type_read n has) no.0,
    )

-- ---- a service, and no body

no_body : (handle other : ℕ) (read : Result Request BodyFault) (b : Bool) → (if b then asked_by handle read else Err (faults.Service handle)) ≡ Err (faults.Body other)
    → (b ≡ true) × (handle ≡ other) × ((r : Request) → read ≡ Ok r → ⊥)
no_body handle other (Ok r) true is = absurd cc
no_body handle other (Err f) true is = (refl, cc, λ r e. absurd cc)
no_body handle other read false is = absurd cc

body_refused : (bytes : List ℕ) (handle : ℕ) → request_at bytes ≡ Err (faults.Body handle) → IsAsked bytes (Err (faults.Body handle))
body_refused bytes handle is =
    let b = behind_header bytes (faults.Body handle) (header_at bytes) refl is (λ e. absurd cc) in
    let none = no_body b.header.request_handle handle (body_at requests bytes) (names_service (service requests b.type_is.id)) b.told in (
      has_handle bytes (faults.Body handle) b handle none.1,
      λ n has. subst (λ (m : ℕ). names_service (service requests m) ≡ true) (one_type bytes b.type_is b.type_read n has) none.0,
      λ r body. none.2 r (body_front bytes r body),
    )

-- what is told of the bytes holds of them
pub asked_said : (bytes : List ℕ) (result : Result Request RequestFault) → Asks result (request_at bytes) → IsAsked bytes result
asked_said bytes (Ok r) is = request_said bytes r is
asked_said bytes (Err faults.Header) is = header_refused bytes is
asked_said bytes (Err (faults.Service handle)) is = service_refused bytes handle is
asked_said bytes (Err (faults.Body handle)) is = body_refused bytes handle is
asked_said bytes (Err faults.OutOfMemory) is = tt
