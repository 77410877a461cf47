-- A Publish with more acknowledgements than an array may have is read as the body of no request, whatever its header is.
use Rattle.std.proofs.Common.{◌≡◌, ℕ, ◌+◌, ◌*◌, ◌^◌, ◌≤◌, ◌<◌, inl, inr, ◌⊎◌, List, ◌++◌, length, Option, Some, Ok, refl, sym, ap, ◌∙◌, subst, append_assoc, arith}
use Rattle.std.proofs.lemmas.List.{length-append}
use Rattle.ua_values.specs.Limits.{most_bytes}
use Rattle.ua_values.specs.Reading.{Input, input}
use Rattle.ua_values.specs.Parts.{array}
use Rattle.ua_values.specs.Written.{written_array, written_node}
use Rattle.ua_values.proofs.Chain.{ok_is}
use Rattle.ua_structures.specs.declared.header.RequestHeader.{RequestHeader}
use Rattle.ua_structures.specs.Body.{body_at, is_body, type_at, type_id, written_type}
use Rattle.ua_structures.specs.Structures.{a_request_header}
use Rattle.ua_structures.proofs.Bodies.{body_said, is_known, type_reads}
use Rattle.ua_structures.proofs.BodyLaws.{type_spelled}
use Rattle.ua_sub_msgs.specs.declared.publish.PublishRequest.{PublishRequest}
use Rattle.ua_sub_msgs.specs.declared.publish.SubscriptionAcknowledgement.{SubscriptionAcknowledgement}
use Rattle.ua_sub_msgs.specs.declared.request.SubRequest.TheVariants as sub_request
use Rattle.ua_sub_msgs.specs.declared.request.SubRequestType.TheVariants as sub_type
use Rattle.ua_sub_msgs.specs.Structures.{a_publish_request, a_subscription_acknowledgement}
use Rattle.ua_services.specs.declared.request.Request.{Request}
use Rattle.ua_services.specs.declared.request.Request.TheVariants as request
use Rattle.ua_services.specs.declared.request.RequestType.{RequestType}
use Rattle.ua_services.specs.declared.request.RequestType.TheVariants as request_type
use Rattle.ua_services.specs.Families.{requests, written_request}
use Rattle.client_orders.proofs.Lengths.{array_written, elements_long}
use Rattle.client_askings.proofs.Bounds.{header_parts}
use Rattle.client_askings.proofs.Headers.{IsLong, IsSpelled, run_inside, spelled_header, spelled_or_long, very_long}

-- the type of a Publish
abbrev publish : RequestType
publish = request_type.Subscription sub_type.Publish

abbrev publish_id : ℕ
publish_id = requests.id publish

abbrev acks_of : PublishRequest → List ℕ
acks_of p = written_array a_subscription_acknowledgement.written p.subscription_acknowledgements

abbrev body_of : PublishRequest → List ℕ
body_of p = written_request (request.Subscription (sub_request.Publish p))

body_parts : (p : PublishRequest) → body_of p ≡ written_type publish_id ++ (a_request_header.written p.request_header ++ acks_of p)
unfolding a_publish_request
body_parts p = refl

-- ---- what stands behind it

kind_is : (j k : RequestType) → ◌≡◌ {A = Option RequestType} (Some j) (Some k) → j ≡ k
kind_is j k e = cc

-- behind the type of a Publish stands what is written
record Behind (k : RequestType) (back rest : List ℕ) : Type 0 where
  kind : k ≡ publish
  same : back ≡ rest

type_behind : (k : RequestType) (front back rest : List ℕ) → type_id (requests.id k) front
    → written_type publish_id ++ rest ≡ front ++ back → Behind k back rest
type_behind k front back rest spelled whole =
    let one : type_at (input 0 (front ++ back)) ≡ Ok (requests.id k, input (0 + length front) back) =
    type_reads.again 0 front back (requests.id k) spelled in
    let two : type_at (input 0 (written_type publish_id ++ rest)) ≡ Ok (publish_id, input (0 + length (written_type publish_id)) rest) =
    type_reads.again 0 (written_type publish_id) rest publish_id (type_spelled publish_id (requests.small publish)) in
    let same = ok_is _ _ (sym one ∙ ap (λ (l : List ℕ). type_at (input 0 l)) (sym whole) ∙ two) in
    let number : requests.id k ≡ publish_id = ap (λ (x : ℕ × Input). x.0) same in
    record {
      kind = kind_is k publish (sym (is_known requests publish_id k number) ∙ requests.known publish);
      same = ap (λ (x : ℕ × Input). x.1.rest) same;
    }

header_behind : (h one other : RequestHeader) (front back rest : List ℕ) → a_request_header.spells one (a_request_header.written h)
    → a_request_header.spells other front → a_request_header.written h ++ rest ≡ front ++ back → back ≡ rest
header_behind h one other front back rest written spelled whole =
    let first : a_request_header.at (input 0 (front ++ back)) ≡ Ok (other, input (0 + length front) back) =
    a_request_header.reads.again 0 front back other spelled in
    let second : a_request_header.at (input 0 (a_request_header.written h ++ rest)) ≡ Ok (one, input (0 + length (a_request_header.written h)) rest) =
    a_request_header.reads.again 0 (a_request_header.written h) rest one written in
    let same = ok_is _ _ (sym first ∙ ap (λ (l : List ℕ). a_request_header.at (input 0 l)) (sym whole) ∙ second) in
    ap (λ (x : RequestHeader × Input). x.1.rest) same

-- no array that may be read is so long
not_array : (acks others : List SubscriptionAcknowledgement) → 65536 < length acks
    → array a_subscription_acknowledgement.spells others (written_array a_subscription_acknowledgement.written acks) → ⊥
not_array acks others long (inl none) =
    let all : length (written_array a_subscription_acknowledgement.written acks) ≡ 4 + 8 * length acks = array_written acks in
    let few : length (written_array a_subscription_acknowledgement.written acks) ≡ 4 = none.3.0 in
    absurd (omega arith)
not_array acks others long (inr some) =
    let all : length (written_array a_subscription_acknowledgement.written acks) ≡ 4 + 8 * length acks = array_written acks in
    let most : length others ≤ 65536 = some.0 in
    let front : length some.1.front ≡ 4 = some.1.first.0 in
    let back : length some.1.back ≡ 8 * length others = elements_long others some.1.back some.1.second in
    let both : length (some.1.front ++ some.1.back) ≡ length some.1.front + length some.1.back = length-append some.1.front some.1.back in
    let whole : length (written_array a_subscription_acknowledgement.written acks) ≡ length (some.1.front ++ some.1.back) = ap length some.1.whole in
    absurd (omega arith)

array_most : (acks : List SubscriptionAcknowledgement) (bytes : List ℕ) → array a_subscription_acknowledgement.spells acks bytes → length bytes ≤ most_bytes
array_most acks bytes (inl none) = let few : length bytes ≡ 4 = none.3.0 in omega arith
array_most acks bytes (inr some) =
    let most : length acks ≤ 65536 = some.0 in
    let front : length some.1.front ≡ 4 = some.1.first.0 in
    let back : length some.1.back ≡ 8 * length acks = elements_long acks some.1.back some.1.second in
    let both : length (some.1.front ++ some.1.back) ≡ length some.1.front + length some.1.back = length-append some.1.front some.1.back in
    let whole : length bytes ≡ length (some.1.front ++ some.1.back) = ap length some.1.whole in
    omega arith

-- what is written of a header begins with its NodeId
record Begins (h : RequestHeader) : Type 0 where
  rest : List ℕ
  is : a_request_header.written h ≡ written_node h.authentication_token ++ rest

begins : (h : RequestHeader) → Begins h
unfolding a_request_header
begins h = record { rest = _; is = refl }

-- a text that is too long is longer than all of a Publish
too_long : (h other : RequestHeader) (front back rest : List ℕ) (acks : List SubscriptionAcknowledgement) → IsLong h.authentication_token
    → a_request_header.spells other front → array a_subscription_acknowledgement.spells acks back → a_request_header.written h ++ rest ≡ front ++ back → ⊥
too_long h other front back rest acks is spelled array_is whole =
    let node : List ℕ = written_node h.authentication_token in
    let parts = header_parts other front spelled in
    let start : Begins h = begins h in
    let all : parts.front ++ (parts.back ++ back) ≡ node ++ (start.rest ++ rest) =
    sym (append_assoc parts.front parts.back back) ∙ ap (λ (l : List ℕ). l ++ back) (sym parts.whole) ∙ sym whole
    ∙ ap (λ (l : List ℕ). l ++ rest) start.is ∙ append_assoc node start.rest rest in
    let far : 2 ^ 31 ≤ length is.run =
    very_long h.authentication_token other.authentication_token is parts.front (parts.back ++ back) (start.rest ++ rest) parts.spelled all in
    let inside : length is.run ≤ length node = run_inside h.authentication_token is in
    let joined : length (a_request_header.written h) ≡ length node + length start.rest = ap length start.is ∙ length-append node start.rest in
    let ours : length (a_request_header.written h ++ rest) ≡ length (a_request_header.written h) + length rest = length-append (a_request_header.written h) rest in
    let theirs : length (front ++ back) ≡ length front + length back = length-append front back in
    let same : length (a_request_header.written h ++ rest) ≡ length (front ++ back) = ap length whole in
    let first : length front ≤ 5 * most_bytes = parts.most in
    let second : length back ≤ most_bytes = array_most acks back array_is in
    absurd (omega arith)

not_by : (h other : RequestHeader) (acks others : List SubscriptionAcknowledgement) (front back : List ℕ)
    → IsSpelled h.authentication_token ⊎ IsLong h.authentication_token → 65536 < length acks
    → a_request_header.spells other front → array a_subscription_acknowledgement.spells others back
    → a_request_header.written h ++ written_array a_subscription_acknowledgement.written acks ≡ front ++ back → ⊥
not_by h other acks others front back (inl is) long spelled array_is whole =
    let rest : List ℕ = written_array a_subscription_acknowledgement.written acks in
    let one = spelled_header h is in
    let same : back ≡ rest = header_behind h one.0 other front back rest one.1 spelled whole in
    not_array acks others long (subst (array a_subscription_acknowledgement.spells others) same array_is)
not_by h other acks others front back (inr is) long spelled array_is whole =
    too_long h other front back (written_array a_subscription_acknowledgement.written acks) others is spelled array_is whole

not_spelled : (p other : PublishRequest) → 65536 < length p.subscription_acknowledgements
    → a_publish_request.spells other (a_request_header.written p.request_header ++ acks_of p) → ⊥
unfolding a_publish_request
not_spelled p other long is =
    not_by p.request_header other.request_header p.subscription_acknowledgements other.subscription_acknowledgements is.front is.back
    (spelled_or_long p.request_header.authentication_token) long is.first is.second is.whole

pub not_read : (p : PublishRequest) (r : Request) → 65536 < length p.subscription_acknowledgements → body_at requests (body_of p) ≡ Ok r → ⊥
not_read p r long is =
    let body : is_body requests r (body_of p) = body_said requests (body_of p) (Ok r) is in
    let k : RequestType = body.0 in
    let rest : List ℕ = a_request_header.written p.request_header ++ acks_of p in
    let behind : Behind k body.1.back rest =
    type_behind k body.1.front body.1.back rest body.1.first (sym (body_parts p) ∙ body.1.whole) in
    let spelled : (requests.cases publish).spells r rest =
    subst (λ (l : List ℕ). (requests.cases publish).spells r l) behind.same
    (subst (λ (j : RequestType). (requests.cases j).spells r body.1.back) behind.kind body.1.second) in
    not_spelled p spelled.2.0 long spelled.2.2
