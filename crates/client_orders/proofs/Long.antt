-- A Publish with more acknowledgements than an array may have is read as the body of no request, behind its header.
use Rattle.std.proofs.Common.{◌≡◌, ℕ, ◌+◌, ◌*◌, ◌≤◌, ◌<◌, inl, inr, List, ◌++◌, length, Bool, true, false, Option, Some, Result, Ok, Err, if◌then◌else◌, refl, sym, ap, ◌∙◌, subst, append_assoc, arith}
use Rattle.std.proofs.lemmas.List.{length-append}
use Rattle.ua_values.specs.Reading.{Input, input}
use Rattle.ua_values.specs.Parts.{array}
use Rattle.ua_values.specs.Written.{written_array}
use Rattle.ua_values.proofs.Chain.{ok_is}
use Rattle.ua_values.proofs.WrittenLemmas.{in_turn}
use Rattle.ua_structures.specs.declared.body.BodyFault.{BodyFault}
use Rattle.ua_structures.specs.declared.front.BodyType.{BodyType}
use Rattle.ua_structures.specs.declared.header.RequestHeader.{RequestHeader}
use Rattle.ua_structures.specs.Body.{body_at, body_type_at, is_body, service, type_at, type_id, written_type}
use Rattle.ua_structures.specs.Header.{header_at, head_at, is_head, judged_head}
use Rattle.ua_structures.specs.Structures.{a_request_header}
use Rattle.ua_structures.proofs.Bodies.{body_said, is_known, type_reads}
use Rattle.ua_structures.proofs.BodyLaws.{type_spelled}
use Rattle.ua_structures.proofs.Headers.{head_reads}
use Rattle.ua_sub_msgs.specs.declared.publish.PublishRequest.{PublishRequest}
use Rattle.ua_sub_msgs.specs.declared.publish.SubscriptionAcknowledgement.{SubscriptionAcknowledgement}
use Rattle.ua_sub_msgs.specs.declared.request.SubRequest.TheVariants as sub_request
use Rattle.ua_sub_msgs.specs.declared.request.SubRequestType.TheVariants as sub_type
use Rattle.ua_sub_msgs.specs.Structures.{a_publish_request, a_subscription_acknowledgement}
use Rattle.ua_services.specs.declared.request.Request.{Request}
use Rattle.ua_services.specs.declared.request.Request.TheVariants as request
use Rattle.ua_services.specs.declared.request.RequestType.{RequestType}
use Rattle.ua_services.specs.declared.request.RequestType.TheVariants as request_type
use Rattle.ua_services.specs.declared.request.RequestFault.TheVariants as faults
use Rattle.ua_services.specs.Families.{requests, written_request}
use Rattle.ua_services.specs.Requests.{asked_behind, asked_by, asked_of, names_service, request_at}
use Rattle.server_keeps.specs.Fitting.{FitsRequest, IsUInt32}
use Rattle.client_orders.proofs.Lengths.{array_written, elements_long}

-- the type of a Publish
abbrev publish : RequestType
publish = request_type.Subscription sub_type.Publish

abbrev publish_id : ℕ
publish_id = requests.id publish

abbrev front_of : PublishRequest → List ℕ
front_of p = written_type publish_id ++ a_request_header.written p.request_header

abbrev acks_of : PublishRequest → List ℕ
acks_of p = written_array a_subscription_acknowledgement.written p.subscription_acknowledgements

abbrev body_of : PublishRequest → List ℕ
body_of p = written_request (request.Subscription (sub_request.Publish p))

body_parts : (p : PublishRequest) → body_of p ≡ written_type publish_id ++ (a_request_header.written p.request_header ++ acks_of p)
unfolding a_publish_request
body_parts p = refl

-- ---- its header

header_is : (p : PublishRequest) → a_request_header.keeps p.request_header → header_at (body_of p) ≡ Ok p.request_header
header_is p kept =
    let header : List ℕ = a_request_header.written p.request_header in
    let joined : body_of p ≡ front_of p ++ acks_of p = body_parts p ∙ sym (append_assoc (written_type publish_id) header (acks_of p)) in
    let head : is_head p.request_header (front_of p) = (
      publish_id,
      in_turn (type_id publish_id) (a_request_header.spells p.request_header) (written_type publish_id) header
          (type_spelled publish_id (requests.small publish)) (a_request_header.spelled p.request_header kept),
    ) in
    let read : head_at (input 0 (front_of p ++ acks_of p)) ≡ Ok (p.request_header, input (0 + length (front_of p)) (acks_of p)) =
    head_reads.again 0 (front_of p) (acks_of p) p.request_header head in
    ap header_at joined ∙ ap (judged_head (length (front_of p ++ acks_of p))) read

-- ---- what stands behind it

kind_is : (j k : RequestType) → ◌≡◌ {A = Option RequestType} (Some j) (Some k) → j ≡ k
kind_is j k e = cc

-- behind the type of a Publish stands what is written
record Behind (k : RequestType) (back rest : List ℕ) : Type 0 where
  kind : k ≡ publish
  same : back ≡ rest

type_behind : (k : RequestType) (front back rest : List ℕ) → type_id (requests.id k) front
    → written_type publish_id ++ rest ≡ front ++ back → Behind k back rest
type_behind k front back rest spelled whole =
    let one : type_at (input 0 (front ++ back)) ≡ Ok (requests.id k, input (0 + length front) back) =
    type_reads.again 0 front back (requests.id k) spelled in
    let two : type_at (input 0 (written_type publish_id ++ rest)) ≡ Ok (publish_id, input (0 + length (written_type publish_id)) rest) =
    type_reads.again 0 (written_type publish_id) rest publish_id (type_spelled publish_id (requests.small publish)) in
    let same = ok_is _ _ (sym one ∙ ap (λ (l : List ℕ). type_at (input 0 l)) (sym whole) ∙ two) in
    let number : requests.id k ≡ publish_id = ap (λ (x : ℕ × Input). x.0) same in
    record {
      kind = kind_is k publish (sym (is_known requests publish_id k number) ∙ requests.known publish);
      same = ap (λ (x : ℕ × Input). x.1.rest) same;
    }

header_behind : (h other : RequestHeader) (front back rest : List ℕ) → a_request_header.keeps h → a_request_header.spells other front
    → a_request_header.written h ++ rest ≡ front ++ back → back ≡ rest
header_behind h other front back rest kept spelled whole =
    let one : a_request_header.at (input 0 (front ++ back)) ≡ Ok (other, input (0 + length front) back) =
    a_request_header.reads.again 0 front back other spelled in
    let two : a_request_header.at (input 0 (a_request_header.written h ++ rest)) ≡ Ok (h, input (0 + length (a_request_header.written h)) rest) =
    a_request_header.reads.again 0 (a_request_header.written h) rest h (a_request_header.spelled h kept) in
    let same = ok_is _ _ (sym one ∙ ap (λ (l : List ℕ). a_request_header.at (input 0 l)) (sym whole) ∙ two) in
    ap (λ (x : RequestHeader × Input). x.1.rest) same

-- no array that may be read is so long
not_array : (acks others : List SubscriptionAcknowledgement) → 65536 < length acks
    → array a_subscription_acknowledgement.spells others (written_array a_subscription_acknowledgement.written acks) → ⊥
not_array acks others long (inl none) =
    let all : length (written_array a_subscription_acknowledgement.written acks) ≡ 4 + 8 * length acks = array_written acks in
    let few : length (written_array a_subscription_acknowledgement.written acks) ≡ 4 = none.3.0 in
    absurd (omega arith)
not_array acks others long (inr some) =
    let all : length (written_array a_subscription_acknowledgement.written acks) ≡ 4 + 8 * length acks = array_written acks in
    let most : length others ≤ 65536 = some.0 in
    let front : length some.1.front ≡ 4 = some.1.first.0 in
    let back : length some.1.back ≡ 8 * length others = elements_long others some.1.back some.1.second in
    let both : length (some.1.front ++ some.1.back) ≡ length some.1.front + length some.1.back = length-append some.1.front some.1.back in
    let whole : length (written_array a_subscription_acknowledgement.written acks) ≡ length (some.1.front ++ some.1.back) = ap length some.1.whole in
    absurd (omega arith)

not_spelled : (p other : PublishRequest) → a_request_header.keeps p.request_header → 65536 < length p.subscription_acknowledgements
    → a_publish_request.spells other (a_request_header.written p.request_header ++ acks_of p) → ⊥
unfolding a_publish_request
not_spelled p other kept long is =
    let back : is.back ≡ acks_of p =
    header_behind p.request_header other.request_header is.front is.back (acks_of p) kept is.first is.whole in
    not_array p.subscription_acknowledgements other.subscription_acknowledgements long
    (subst (array a_subscription_acknowledgement.spells other.subscription_acknowledgements) back is.second)

not_read : (p : PublishRequest) → a_request_header.keeps p.request_header → 65536 < length p.subscription_acknowledgements
    → (r : Request) → body_at requests (body_of p) ≡ Ok r → ⊥
not_read p kept long r is =
    let body : is_body requests r (body_of p) = body_said requests (body_of p) (Ok r) is in
    let k : RequestType = body.0 in
    let rest : List ℕ = a_request_header.written p.request_header ++ acks_of p in
    let behind : Behind k body.1.back rest =
    type_behind k body.1.front body.1.back rest body.1.first (sym (body_parts p) ∙ body.1.whole) in
    let spelled : (requests.cases publish).spells r rest =
    subst (λ (l : List ℕ). (requests.cases publish).spells r l) behind.same
    (subst (λ (j : RequestType). (requests.cases j).spells r body.1.back) behind.kind body.1.second) in
    not_spelled p spelled.2.0 kept long spelled.2.2

-- ---- what is asked

asked_fits : (handle : ℕ) (x : Result Request BodyFault) → IsUInt32 handle → ((r : Request) → x ≡ Ok r → ⊥) → FitsRequest (asked_by handle x)
asked_fits handle (Ok r) fits none = absurd (none r refl)
asked_fits handle (Err fault) fits none = fits

asked_if : (handle : ℕ) (b : Bool) (x : Result Request BodyFault) → IsUInt32 handle → ((r : Request) → x ≡ Ok r → ⊥)
    → FitsRequest (if b then asked_by handle x else Err (faults.Service handle))
asked_if handle true x fits none = asked_fits handle x fits none
asked_if handle false x fits none = fits

asked_behind_fits : (handle : ℕ) (bytes : List ℕ) (t : Result BodyType BodyFault) → IsUInt32 handle
    → ((r : Request) → body_at requests bytes ≡ Ok r → ⊥) → FitsRequest (asked_of handle bytes t)
asked_behind_fits handle bytes (Ok t) fits none =
    asked_if handle (names_service (service requests t.id)) (body_at requests bytes) fits none
asked_behind_fits handle bytes (Err fault) fits none = tt

header_handle : (h : RequestHeader) → a_request_header.keeps h → IsUInt32 h.request_handle
unfolding a_request_header
header_handle h kept = kept.1.1.0

-- a server takes it as the body of no request, and its handle is that of the header
pub long_fits : (p : PublishRequest) → a_request_header.keeps p.request_header → 65536 < length p.subscription_acknowledgements
    → FitsRequest (request_at (body_of p))
long_fits p kept long =
    subst (λ (x : Result RequestHeader BodyFault). FitsRequest (asked_behind (body_of p) x)) (sym (header_is p kept))
    (asked_behind_fits p.request_header.request_handle (body_of p) (body_type_at (body_of p)) (header_handle p.request_header kept)
    (not_read p kept long))
