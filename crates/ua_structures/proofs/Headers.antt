-- What reading a body's type, and a request's header, says in the words of the grammar.
use Rattle.std.proofs.Common.{◌≡◌, ℕ, ℤ, ◌≤◌, ◌<◌, ◌^◌, List, length, take, Result, Ok, Err, refl, ap, subst, inl, inr, ◌⊎◌, FitsSigned}
use Rattle.std.specs.Int.{w64}
use Rattle.ua_values.specs.declared.node.NodeId.{NodeId}
use Rattle.ua_values.specs.declared.fault.ValueFault.{ValueFault}
use Rattle.ua_values.specs.declared.fault.ValueFault.TheVariants as faults
use Rattle.ua_values.specs.Reading.{Input, input, Fault, Short, Bad, Fails, sized}
use Rattle.ua_values.specs.Parts.{Chained, Begun}
use Rattle.ua_values.specs.Codec.{Reads}
use Rattle.ua_values.specs.Laws.{KeepsNode}
use Rattle.ua_values.specs.Answer.{EndsEarly, IsFault}
use Rattle.ua_values.proofs.Chain.{reads_on, reads_as}
use Rattle.ua_values.proofs.Answers.{is_read}
use Rattle.ua_structures.specs.declared.body.BodyFault.{BodyFault}
use Rattle.ua_structures.specs.declared.body.BodyFault.TheVariants as body
use Rattle.ua_structures.specs.declared.header.RequestHeader.{RequestHeader}
use Rattle.ua_structures.specs.declared.front.BodyType.{BodyType}
use Rattle.ua_structures.specs.Body.{type_id, type_at, body_fault, judged_type, body_type_at, Answers, IsTypeRead}
use Rattle.ua_structures.specs.Structures.{an_unused_of_request, an_unused_of_response, a_request_header, request_header, a_response_header, response_header}
use Rattle.ua_structures.specs.Header.{is_head, head_cut, head_at, judged_head, header_at, IsHeaderRead}
use Rattle.ua_structures.proofs.Bodies.{type_reads}

pub head_reads : Reads is_head head_cut head_at
head_reads =
    reads_as (Chained type_id (λ n. a_request_header.spells)) is_head head_cut head_cut head_at
    (λ h bytes c. (c.value, c.parts)) (λ h bytes is. record { value = is.0; parts = is.1 }) (λ bytes cut. cut)
    (reads_on type_id (Begun type_id) type_at (λ n. a_request_header.spells) (λ n. a_request_header.cut) (λ n. a_request_header.at) type_reads (λ n. a_request_header.reads))

is_ok : {A : Type 0} (a b : A) → ◌≡◌ {A = Result A BodyFault} (Ok a) (Ok b) → a ≡ b
is_ok a b e = cc

is_bad : {A : Type 0} (p q c d : ℕ) → ◌≡◌ {A = Result A BodyFault} (Err (body.Bad p c)) (Err (body.Bad q d)) → (p ≡ q) × (c ≡ d)
is_bad p q c d e = (cc, cc)

read_said : (bytes : List ℕ) (h : RequestHeader) (place : ℕ) → (place ≤ length bytes) × is_head h (take place bytes) → (result : Result RequestHeader BodyFault) → Answers result (Ok h) → IsHeaderRead bytes result
read_said bytes h place read (Ok x) e = (place, read.0, subst (λ y. is_head y (take place bytes)) (is_ok h x e) read.1)
read_said bytes h place read (Err (body.Unknown n)) e = absurd cc
read_said bytes h place read (Err (body.Bad p c)) e = absurd cc
read_said bytes h place read (Err body.OutOfMemory) e = tt

abbrev IsBadHeader : List ℕ → ℕ → ℕ → Type 0
IsBadHeader bytes place code = ((code ≡ 0x80070000) × (place ≡ length bytes) × EndsEarly is_head head_cut bytes) ⊎ IsFault is_head head_cut bytes place code

bad_said : (bytes : List ℕ) (place code : ℕ) → IsBadHeader bytes place code → (result : Result RequestHeader BodyFault) → Answers result (Err (body.Bad place code)) → IsHeaderRead bytes result
bad_said bytes place code is_so (Ok x) e = absurd cc
bad_said bytes place code is_so (Err (body.Unknown n)) e = absurd cc
bad_said bytes place code is_so (Err (body.Bad p c)) e =
    let is = is_bad {A = RequestHeader} place p code c e in
    subst (λ (k : ℕ). IsBadHeader bytes k c) is.0 (subst (λ (k : ℕ). IsBadHeader bytes place k) is.1 is_so)
bad_said bytes place code is_so (Err body.OutOfMemory) e = tt

said : (bytes : List ℕ) (r : Result (RequestHeader × Input) Fault) → head_at (input 0 bytes) ≡ r → (result : Result RequestHeader BodyFault) → Answers result (judged_head (length bytes) r) → IsHeaderRead bytes result
said bytes (Ok x) e result given = read_said bytes x.0 x.1.place (is_read is_head head_cut head_at head_reads bytes (Ok (x.0, x.1.place)) (ap sized e)) result given
said bytes (Err Short) e result given = bad_said bytes (length bytes) 0x80070000 (inl (refl, refl, is_read is_head head_cut head_at head_reads bytes (Err faults.Short) (ap sized e))) result given
said bytes (Err (Bad place code)) e result given = bad_said bytes place code (inr (is_read is_head head_cut head_at head_reads bytes (Err (faults.Bad place code)) (ap sized e))) result given

pub header_said : (bytes : List ℕ) (result : Result RequestHeader BodyFault) → Answers result (header_at bytes) → IsHeaderRead bytes result
header_said bytes result given = said bytes (head_at (input 0 bytes)) refl result given

-- ---- a type alone

type_read_said : (bytes : List ℕ) (t : BodyType) → (t.place ≤ length bytes) × type_id t.id (take t.place bytes) → (result : Result BodyType BodyFault) → Answers result (Ok t) → IsTypeRead bytes result
type_read_said bytes t read (Ok u) e = subst (λ (x : BodyType). (x.place ≤ length bytes) × type_id x.id (take x.place bytes)) (is_ok t u e) read
type_read_said bytes t read (Err (body.Unknown n)) e = absurd cc
type_read_said bytes t read (Err (body.Bad p c)) e = absurd cc
type_read_said bytes t read (Err body.OutOfMemory) e = tt

abbrev IsBadType : List ℕ → ℕ → ℕ → Type 0
IsBadType bytes place code = ((code ≡ 0x80070000) × (place ≡ length bytes) × EndsEarly type_id (Begun type_id) bytes) ⊎ IsFault type_id (Begun type_id) bytes place code

type_bad_said : (bytes : List ℕ) (place code : ℕ) → IsBadType bytes place code → (result : Result BodyType BodyFault) → Answers result (Err (body.Bad place code)) → IsTypeRead bytes result
type_bad_said bytes place code is_so (Ok x) e = absurd cc
type_bad_said bytes place code is_so (Err (body.Unknown n)) e = absurd cc
type_bad_said bytes place code is_so (Err (body.Bad p c)) e =
    let is = is_bad {A = BodyType} place p code c e in
    subst (λ (k : ℕ). IsBadType bytes k c) is.0 (subst (λ (k : ℕ). IsBadType bytes place k) is.1 is_so)
type_bad_said bytes place code is_so (Err body.OutOfMemory) e = tt

type_said_of : (bytes : List ℕ) (r : Result (ℕ × Input) Fault) → type_at (input 0 bytes) ≡ r → (result : Result BodyType BodyFault) → Answers result (judged_type (length bytes) r) → IsTypeRead bytes result
type_said_of bytes (Ok x) e result given =
    type_read_said bytes (record { id = x.0; place = x.1.place }) (is_read type_id (Begun type_id) type_at type_reads bytes (Ok (x.0, x.1.place)) (ap sized e)) result given
type_said_of bytes (Err Short) e result given = type_bad_said bytes (length bytes) 0x80070000 (inl (refl, refl, is_read type_id (Begun type_id) type_at type_reads bytes (Err faults.Short) (ap sized e))) result given
type_said_of bytes (Err (Bad place code)) e result given = type_bad_said bytes place code (inr (is_read type_id (Begun type_id) type_at type_reads bytes (Err (faults.Bad place code)) (ap sized e))) result given

pub type_said : (bytes : List ℕ) (result : Result BodyType BodyFault) → Answers result (body_type_at bytes) → IsTypeRead bytes result
type_said bytes result given = type_said_of bytes (type_at (input 0 bytes)) refl result given

-- ---- what the code's steps answer

pub type_fails : (bytes : List ℕ) (fault : ValueFault) → Fails fault (type_at (input 0 bytes)) → Answers (Err (body_fault (length bytes) fault)) (body_type_at bytes)
type_fails bytes faults.Short failed = ap (judged_type (length bytes)) failed
type_fails bytes (faults.Bad place code) failed = ap (judged_type (length bytes)) failed
type_fails bytes faults.OutOfMemory failed = tt

pub front_fails : (bytes : List ℕ) (fault : ValueFault) → Fails fault (head_at (input 0 bytes)) → Answers (Err (body_fault (length bytes) fault)) (header_at bytes)
front_fails bytes faults.Short failed = ap (judged_head (length bytes)) failed
front_fails bytes (faults.Bad place code) failed = ap (judged_head (length bytes)) failed
front_fails bytes faults.OutOfMemory failed = tt

-- ---- headers that are made of what is used

pub request_header_keeps : (token : NodeId) (time : ℤ) (number : ℕ) → KeepsNode token → FitsSigned w64 time → number < 2 ^ 32 → a_request_header.keeps (request_header token time number)
unfolding a_request_header an_unused_of_request
request_header_keeps token time number token_keeps time_fits number_fits = (token_keeps, (time_fits, (number_fits, tt)))

pub response_header_keeps : (time : ℤ) (number code : ℕ) → FitsSigned w64 time → number < 2 ^ 32 → code < 2 ^ 32 → a_response_header.keeps (response_header time number code)
unfolding a_response_header an_unused_of_response
response_header_keeps time number code time_fits number_fits code_fits = (time_fits, (number_fits, (code_fits, tt)))
