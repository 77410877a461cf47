-- Each request begins with its header, and is of the type that stands before it.
use Rattle.std.specs.Prelude.{◌≡◌, List, ℕ, Bool, true, false, length, Option, Some, None, Result, Ok, Err, refl, nat_lt, if◌then◌else◌}
use Rattle.std.proofs.Common.{◌∙◌, ap, sym, subst}
use Rattle.ua_values.specs.Reading.{Input, input, Reader, Fault, Short, Bad, passed, ◌>>=◌, give}
use Rattle.ua_structures.specs.declared.header.RequestHeader.{RequestHeader}
use Rattle.ua_structures.specs.declared.body.BodyFault.{BodyFault}
use Rattle.ua_structures.specs.declared.body.BodyFault.TheVariants as body
use Rattle.ua_structures.specs.Form.{◌then◌}
use Rattle.ua_structures.specs.Body.{Known, judged_opened, judged_type, behind_at, type_at, body_at, service, Answers}
use Rattle.ua_structures.specs.Header.{header_at, judged_head}
use Rattle.ua_structures.specs.Structures.{a_request_header}
use Rattle.ua_session_msgs.specs.Structures as session_forms
use Rattle.ua_session_msgs.specs.Families as session
use Rattle.ua_session_msgs.specs.declared.request.SessionRequest.{SessionRequest}
use Rattle.ua_session_msgs.specs.declared.request.SessionRequest.TheVariants as session_request
use Rattle.ua_session_msgs.specs.declared.request.SessionRequestType.{SessionRequestType}
use Rattle.ua_session_msgs.specs.declared.request.SessionRequestType.TheVariants as session_type
use Rattle.ua_sub_msgs.specs.Structures as sub_forms
use Rattle.ua_sub_msgs.specs.Families as sub
use Rattle.ua_sub_msgs.specs.declared.request.SubRequest.{SubRequest}
use Rattle.ua_sub_msgs.specs.declared.request.SubRequest.TheVariants as sub_request
use Rattle.ua_sub_msgs.specs.declared.request.SubRequestType.{SubRequestType}
use Rattle.ua_sub_msgs.specs.declared.request.SubRequestType.TheVariants as sub_type
use Rattle.ua_services.specs.declared.request.Request.{Request}
use Rattle.ua_services.specs.declared.request.Request.TheVariants as request
use Rattle.ua_services.specs.declared.request.RequestType.{RequestType}
use Rattle.ua_services.specs.declared.request.RequestType.TheVariants as request_type
use Rattle.ua_services.specs.declared.request.RequestFault.TheVariants as faults
use Rattle.ua_services.specs.Families.{requests, request_put}
use Rattle.ua_services.specs.Requests.{session_header, sub_header, header_of, is_service, names_service, asked_by, asked_of, asked_behind, request_at, Asks, told}

-- all that a reader gives from a place is so related to that place
abbrev pub GivesOnly : {A : Type 0} → (Input → A → Type 0) → Reader A → Type 0
GivesOnly {A = A} R at = (from : Input) (a : A) (after : Input) → at from ≡ Ok (a, after) → R from a

found_same : {X : Type 0} (x y : X) → ◌≡◌ {A = Result X Fault} (Ok x) (Ok y) → x ≡ y
found_same x y e = cc

given_same : {A : Type 0} (a b : A) (i j : Input) → ◌≡◌ {A = Result (A × Input) Fault} (Ok (a, i)) (Ok (b, j)) → a ≡ b
given_same {A = A} a b i j e = ap (λ (p : A × Input). p.0) (found_same (a, i) (b, j) e)

made_of : {A B : Type 0} (at : Reader A) (make : A → B) (R : Input → A → Type 0) (Q : Input → B → Type 0) → ((from : Input) (a : A) → R from a → Q from (make a)) → GivesOnly R at
    → (from : Input) (r : Result (A × Input) Fault) → at from ≡ r → (b : B) (after : Input) → passed r (λ a. give (make a)) ≡ Ok (b, after) → Q from b
made_of at make R Q made gives from (Ok x) e b after is = subst (λ c. Q from c) (given_same (make x.0) b x.1 after is) (made from x.0 (gives from x.0 x.1 e))
made_of at make R Q made gives from (Err f) e b after is = absurd cc

-- what is made of what is so related
pub gives_made : {A B : Type 0} (at : Reader A) (make : A → B) (R : Input → A → Type 0) (Q : Input → B → Type 0) → ((from : Input) (a : A) → R from a → Q from (make a)) → GivesOnly R at
    → GivesOnly Q (at >>= λ a. give (make a))
gives_made at make R Q made gives from b after is = made_of at make R Q made gives from (at from) refl b after is

-- ---- the header

-- a header is read here, whatever stands behind it
pub record Begins (from : Input) (header : RequestHeader) : Type 0 where
  pub after : Input
  pub is : a_request_header.at from ≡ Ok (header, after)

pub header_begins : GivesOnly Begins a_request_header.at
header_begins from h after is = record { after = after; is = is }

behind : {B : Type 0} (h : RequestHeader) (r : Result (B × Input) Fault) (a : RequestHeader × B) (after : Input) → passed r (λ b. give (h, b)) ≡ Ok (a, after) → h ≡ a.0
behind {B = B} h (Ok x) a after is = ap (λ (p : RequestHeader × B). p.0) (given_same (h, x.0) a x.1 after is)
behind h (Err f) a after is = absurd cc

first_of : {B : Type 0} (next : Reader B) (from : Input) (r : Result (RequestHeader × Input) Fault) → a_request_header.at from ≡ r → (a : RequestHeader × B) (after : Input)
    → passed r (λ h. next >>= λ b. give (h, b)) ≡ Ok (a, after) → Begins from a.0
first_of next from (Ok x) e a after is =
    record { after = x.1; is = e ∙ ap (λ (h : RequestHeader). Ok (h, x.1)) (behind x.0 (next x.1) a after is) }
first_of next from (Err f) e a after is = absurd cc

pair_begins : {B : Type 0} (next : Reader B) → GivesOnly (λ from (a : RequestHeader × B). Begins from a.0) (a_request_header.at >>= λ h. next >>= λ b. give (h, b))
pair_begins next from a after is = first_of next from (a_request_header.at from) refl a after is

-- a structure whose first field is the header
structure_begins : {B R : Type 0} (next : Reader B) (make : RequestHeader × B → R) (header : R → RequestHeader) → ((a : RequestHeader × B) → header (make a) ≡ a.0)
    → GivesOnly (λ from r. Begins from (header r)) ((a_request_header.at >>= λ h. next >>= λ b. give (h, b)) >>= λ a. give (make a))
structure_begins {B = B} next make header same =
    gives_made (a_request_header.at >>= λ h. next >>= λ b. give (h, b)) make (λ from (a : RequestHeader × B). Begins from a.0) (λ from r. Begins from (header r))
    (λ from a begins. subst (λ (h : RequestHeader). Begins from h) (sym (same a)) begins) (pair_begins next)

-- what is read as a structure of a type has this header, and is of the type
abbrev IsSession : SessionRequestType → Input → SessionRequest → Type 0
IsSession k from r = Begins from (session_header r) × ((session.request_put r).kind ≡ k)

abbrev IsSub : SubRequestType → Input → SubRequest → Type 0
IsSub k from r = Begins from (sub_header r) × ((sub.request_put r).kind ≡ k)

an_open_secure_channel_request_begins : GivesOnly (λ from r. Begins from r.request_header) session_forms.an_open_secure_channel_request.at
unfolding session_forms.an_open_secure_channel_request
an_open_secure_channel_request_begins = structure_begins _ _ (λ r. r.request_header) (λ a. refl)

session_OpenSecureChannel : GivesOnly (IsSession session_type.OpenSecureChannel) (session.request_case session_type.OpenSecureChannel).at
session_OpenSecureChannel = gives_made session_forms.an_open_secure_channel_request.at session_request.OpenSecureChannel (λ from r. Begins from r.request_header) (IsSession session_type.OpenSecureChannel) (λ from r begins. (begins, refl)) an_open_secure_channel_request_begins

session_CloseSecureChannel : GivesOnly (IsSession session_type.CloseSecureChannel) (session.request_case session_type.CloseSecureChannel).at
session_CloseSecureChannel = gives_made a_request_header.at session_request.CloseSecureChannel Begins (IsSession session_type.CloseSecureChannel) (λ from h begins. (begins, refl)) header_begins

a_find_servers_request_begins : GivesOnly (λ from r. Begins from r.request_header) session_forms.a_find_servers_request.at
unfolding session_forms.a_find_servers_request
a_find_servers_request_begins = structure_begins _ _ (λ r. r.request_header) (λ a. refl)

session_FindServers : GivesOnly (IsSession session_type.FindServers) (session.request_case session_type.FindServers).at
session_FindServers = gives_made session_forms.a_find_servers_request.at session_request.FindServers (λ from r. Begins from r.request_header) (IsSession session_type.FindServers) (λ from r begins. (begins, refl)) a_find_servers_request_begins

a_get_endpoints_request_begins : GivesOnly (λ from r. Begins from r.request_header) session_forms.a_get_endpoints_request.at
unfolding session_forms.a_get_endpoints_request
a_get_endpoints_request_begins = structure_begins _ _ (λ r. r.request_header) (λ a. refl)

session_GetEndpoints : GivesOnly (IsSession session_type.GetEndpoints) (session.request_case session_type.GetEndpoints).at
session_GetEndpoints = gives_made session_forms.a_get_endpoints_request.at session_request.GetEndpoints (λ from r. Begins from r.request_header) (IsSession session_type.GetEndpoints) (λ from r begins. (begins, refl)) a_get_endpoints_request_begins

a_create_session_request_begins : GivesOnly (λ from r. Begins from r.request_header) session_forms.a_create_session_request.at
unfolding session_forms.a_create_session_request
a_create_session_request_begins = structure_begins _ _ (λ r. r.request_header) (λ a. refl)

session_CreateSession : GivesOnly (IsSession session_type.CreateSession) (session.request_case session_type.CreateSession).at
session_CreateSession = gives_made session_forms.a_create_session_request.at session_request.CreateSession (λ from r. Begins from r.request_header) (IsSession session_type.CreateSession) (λ from r begins. (begins, refl)) a_create_session_request_begins

an_activate_session_request_begins : GivesOnly (λ from r. Begins from r.request_header) session_forms.an_activate_session_request.at
unfolding session_forms.an_activate_session_request
an_activate_session_request_begins = structure_begins _ _ (λ r. r.request_header) (λ a. refl)

session_ActivateSession : GivesOnly (IsSession session_type.ActivateSession) (session.request_case session_type.ActivateSession).at
session_ActivateSession = gives_made session_forms.an_activate_session_request.at session_request.ActivateSession (λ from r. Begins from r.request_header) (IsSession session_type.ActivateSession) (λ from r begins. (begins, refl)) an_activate_session_request_begins

a_close_session_request_begins : GivesOnly (λ from r. Begins from r.request_header) session_forms.a_close_session_request.at
unfolding session_forms.a_close_session_request
a_close_session_request_begins = structure_begins _ _ (λ r. r.request_header) (λ a. refl)

session_CloseSession : GivesOnly (IsSession session_type.CloseSession) (session.request_case session_type.CloseSession).at
session_CloseSession = gives_made session_forms.a_close_session_request.at session_request.CloseSession (λ from r. Begins from r.request_header) (IsSession session_type.CloseSession) (λ from r begins. (begins, refl)) a_close_session_request_begins

a_read_request_begins : GivesOnly (λ from r. Begins from r.request_header) session_forms.a_read_request.at
unfolding session_forms.a_read_request
a_read_request_begins = structure_begins _ _ (λ r. r.request_header) (λ a. refl)

session_Read : GivesOnly (IsSession session_type.Read) (session.request_case session_type.Read).at
session_Read = gives_made session_forms.a_read_request.at session_request.Read (λ from r. Begins from r.request_header) (IsSession session_type.Read) (λ from r begins. (begins, refl)) a_read_request_begins

a_call_request_begins : GivesOnly (λ from r. Begins from r.request_header) session_forms.a_call_request.at
unfolding session_forms.a_call_request
a_call_request_begins = structure_begins _ _ (λ r. r.request_header) (λ a. refl)

session_Call : GivesOnly (IsSession session_type.Call) (session.request_case session_type.Call).at
session_Call = gives_made session_forms.a_call_request.at session_request.Call (λ from r. Begins from r.request_header) (IsSession session_type.Call) (λ from r begins. (begins, refl)) a_call_request_begins

a_create_monitored_items_request_begins : GivesOnly (λ from r. Begins from r.request_header) sub_forms.a_create_monitored_items_request.at
unfolding sub_forms.a_create_monitored_items_request
a_create_monitored_items_request_begins = structure_begins _ _ (λ r. r.request_header) (λ a. refl)

sub_CreateMonitoredItems : GivesOnly (IsSub sub_type.CreateMonitoredItems) (sub.request_case sub_type.CreateMonitoredItems).at
sub_CreateMonitoredItems = gives_made sub_forms.a_create_monitored_items_request.at sub_request.CreateMonitoredItems (λ from r. Begins from r.request_header) (IsSub sub_type.CreateMonitoredItems) (λ from r begins. (begins, refl)) a_create_monitored_items_request_begins

a_set_monitoring_mode_request_begins : GivesOnly (λ from r. Begins from r.request_header) sub_forms.a_set_monitoring_mode_request.at
unfolding sub_forms.a_set_monitoring_mode_request
a_set_monitoring_mode_request_begins = structure_begins _ _ (λ r. r.request_header) (λ a. refl)

sub_SetMonitoringMode : GivesOnly (IsSub sub_type.SetMonitoringMode) (sub.request_case sub_type.SetMonitoringMode).at
sub_SetMonitoringMode = gives_made sub_forms.a_set_monitoring_mode_request.at sub_request.SetMonitoringMode (λ from r. Begins from r.request_header) (IsSub sub_type.SetMonitoringMode) (λ from r begins. (begins, refl)) a_set_monitoring_mode_request_begins

a_delete_monitored_items_request_begins : GivesOnly (λ from r. Begins from r.request_header) sub_forms.a_delete_monitored_items_request.at
unfolding sub_forms.a_delete_monitored_items_request
a_delete_monitored_items_request_begins = structure_begins _ _ (λ r. r.request_header) (λ a. refl)

sub_DeleteMonitoredItems : GivesOnly (IsSub sub_type.DeleteMonitoredItems) (sub.request_case sub_type.DeleteMonitoredItems).at
sub_DeleteMonitoredItems = gives_made sub_forms.a_delete_monitored_items_request.at sub_request.DeleteMonitoredItems (λ from r. Begins from r.request_header) (IsSub sub_type.DeleteMonitoredItems) (λ from r begins. (begins, refl)) a_delete_monitored_items_request_begins

a_create_subscription_request_begins : GivesOnly (λ from r. Begins from r.request_header) sub_forms.a_create_subscription_request.at
unfolding sub_forms.a_create_subscription_request
a_create_subscription_request_begins = structure_begins _ _ (λ r. r.request_header) (λ a. refl)

sub_CreateSubscription : GivesOnly (IsSub sub_type.CreateSubscription) (sub.request_case sub_type.CreateSubscription).at
sub_CreateSubscription = gives_made sub_forms.a_create_subscription_request.at sub_request.CreateSubscription (λ from r. Begins from r.request_header) (IsSub sub_type.CreateSubscription) (λ from r begins. (begins, refl)) a_create_subscription_request_begins

a_modify_subscription_request_begins : GivesOnly (λ from r. Begins from r.request_header) sub_forms.a_modify_subscription_request.at
unfolding sub_forms.a_modify_subscription_request
a_modify_subscription_request_begins = structure_begins _ _ (λ r. r.request_header) (λ a. refl)

sub_ModifySubscription : GivesOnly (IsSub sub_type.ModifySubscription) (sub.request_case sub_type.ModifySubscription).at
sub_ModifySubscription = gives_made sub_forms.a_modify_subscription_request.at sub_request.ModifySubscription (λ from r. Begins from r.request_header) (IsSub sub_type.ModifySubscription) (λ from r begins. (begins, refl)) a_modify_subscription_request_begins

a_set_publishing_mode_request_begins : GivesOnly (λ from r. Begins from r.request_header) sub_forms.a_set_publishing_mode_request.at
unfolding sub_forms.a_set_publishing_mode_request
a_set_publishing_mode_request_begins = structure_begins _ _ (λ r. r.request_header) (λ a. refl)

sub_SetPublishingMode : GivesOnly (IsSub sub_type.SetPublishingMode) (sub.request_case sub_type.SetPublishingMode).at
sub_SetPublishingMode = gives_made sub_forms.a_set_publishing_mode_request.at sub_request.SetPublishingMode (λ from r. Begins from r.request_header) (IsSub sub_type.SetPublishingMode) (λ from r begins. (begins, refl)) a_set_publishing_mode_request_begins

a_publish_request_begins : GivesOnly (λ from r. Begins from r.request_header) sub_forms.a_publish_request.at
unfolding sub_forms.a_publish_request
a_publish_request_begins = structure_begins _ _ (λ r. r.request_header) (λ a. refl)

sub_Publish : GivesOnly (IsSub sub_type.Publish) (sub.request_case sub_type.Publish).at
sub_Publish = gives_made sub_forms.a_publish_request.at sub_request.Publish (λ from r. Begins from r.request_header) (IsSub sub_type.Publish) (λ from r begins. (begins, refl)) a_publish_request_begins

a_republish_request_begins : GivesOnly (λ from r. Begins from r.request_header) sub_forms.a_republish_request.at
unfolding sub_forms.a_republish_request
a_republish_request_begins = structure_begins _ _ (λ r. r.request_header) (λ a. refl)

sub_Republish : GivesOnly (IsSub sub_type.Republish) (sub.request_case sub_type.Republish).at
sub_Republish = gives_made sub_forms.a_republish_request.at sub_request.Republish (λ from r. Begins from r.request_header) (IsSub sub_type.Republish) (λ from r begins. (begins, refl)) a_republish_request_begins

a_transfer_subscriptions_request_begins : GivesOnly (λ from r. Begins from r.request_header) sub_forms.a_transfer_subscriptions_request.at
unfolding sub_forms.a_transfer_subscriptions_request
a_transfer_subscriptions_request_begins = structure_begins _ _ (λ r. r.request_header) (λ a. refl)

sub_TransferSubscriptions : GivesOnly (IsSub sub_type.TransferSubscriptions) (sub.request_case sub_type.TransferSubscriptions).at
sub_TransferSubscriptions = gives_made sub_forms.a_transfer_subscriptions_request.at sub_request.TransferSubscriptions (λ from r. Begins from r.request_header) (IsSub sub_type.TransferSubscriptions) (λ from r begins. (begins, refl)) a_transfer_subscriptions_request_begins

a_delete_subscriptions_request_begins : GivesOnly (λ from r. Begins from r.request_header) sub_forms.a_delete_subscriptions_request.at
unfolding sub_forms.a_delete_subscriptions_request
a_delete_subscriptions_request_begins = structure_begins _ _ (λ r. r.request_header) (λ a. refl)

sub_DeleteSubscriptions : GivesOnly (IsSub sub_type.DeleteSubscriptions) (sub.request_case sub_type.DeleteSubscriptions).at
sub_DeleteSubscriptions = gives_made sub_forms.a_delete_subscriptions_request.at sub_request.DeleteSubscriptions (λ from r. Begins from r.request_header) (IsSub sub_type.DeleteSubscriptions) (λ from r begins. (begins, refl)) a_delete_subscriptions_request_begins

session_gives : (k : SessionRequestType) → GivesOnly (IsSession k) (session.request_case k).at
session_gives session_type.OpenSecureChannel = session_OpenSecureChannel
session_gives session_type.CloseSecureChannel = session_CloseSecureChannel
session_gives session_type.FindServers = session_FindServers
session_gives session_type.GetEndpoints = session_GetEndpoints
session_gives session_type.CreateSession = session_CreateSession
session_gives session_type.ActivateSession = session_ActivateSession
session_gives session_type.CloseSession = session_CloseSession
session_gives session_type.Read = session_Read
session_gives session_type.Call = session_Call

sub_gives : (k : SubRequestType) → GivesOnly (IsSub k) (sub.request_case k).at
sub_gives sub_type.CreateMonitoredItems = sub_CreateMonitoredItems
sub_gives sub_type.SetMonitoringMode = sub_SetMonitoringMode
sub_gives sub_type.DeleteMonitoredItems = sub_DeleteMonitoredItems
sub_gives sub_type.CreateSubscription = sub_CreateSubscription
sub_gives sub_type.ModifySubscription = sub_ModifySubscription
sub_gives sub_type.SetPublishingMode = sub_SetPublishingMode
sub_gives sub_type.Publish = sub_Publish
sub_gives sub_type.Republish = sub_Republish
sub_gives sub_type.TransferSubscriptions = sub_TransferSubscriptions
sub_gives sub_type.DeleteSubscriptions = sub_DeleteSubscriptions

abbrev IsRequest : RequestType → Input → Request → Type 0
IsRequest k from r = Begins from (header_of r) × ((request_put r).kind ≡ k)

request_gives : (k : RequestType) → GivesOnly (IsRequest k) (requests.cases k).at
request_gives (request_type.Session k) =
    gives_made (session.request_case k).at request.Session (IsSession k) (IsRequest (request_type.Session k)) (λ from r is. (is.0, ap request_type.Session is.1)) (session_gives k)
request_gives (request_type.Subscription k) =
    gives_made (sub.request_case k).at request.Subscription (IsSub k) (IsRequest (request_type.Subscription k)) (λ from r is. (is.0, ap request_type.Subscription is.1)) (sub_gives k)

-- ---- a body that is read

-- how these bytes are read as this request
pub record ReadAs (bytes : List ℕ) (r : Request) : Type 0 where
  pub number : ℕ
  pub place : Input
  pub kind : RequestType
  pub after : Input
  pub type_is : type_at (input 0 bytes) ≡ Ok (number, place)
  pub known : service requests number ≡ Some kind
  pub read : (requests.cases kind).at place ≡ Ok (r, after)

whole_is : (a r : Request) (fault : BodyFault) (b : Bool) → (if b then Err fault else Ok a) ≡ Ok r → a ≡ r
whole_is a r fault true e = absurd cc
whole_is a r fault false e = cc

structure_read : (bytes : List ℕ) (r : Request) (n : ℕ) (i : Input) (k : RequestType) → type_at (input 0 bytes) ≡ Ok (n, i) → service requests n ≡ Some k
    → (x : Result (Request × Input) Fault) → (requests.cases k).at i ≡ x → judged_opened (length bytes) (passed x (λ a. give (Known a))) ≡ Ok r → ReadAs bytes r
structure_read bytes r n i k type_is known (Ok x) e is =
    let same : x.0 ≡ r = whole_is x.0 r (body.Bad x.1.place 0x80070000) (nat_lt x.1.place (length bytes)) is in
    record { number = n; place = i; kind = k; after = x.1; type_is = type_is; known = known; read = e ∙ ap (λ (a : Request). Ok (a, x.1)) same }
structure_read bytes r n i k type_is known (Err Short) e is = absurd cc
structure_read bytes r n i k type_is known (Err (Bad place code)) e is = absurd cc

kind_read : (bytes : List ℕ) (r : Request) (n : ℕ) (i : Input) → type_at (input 0 bytes) ≡ Ok (n, i)
    → (o : Option RequestType) → service requests n ≡ o → judged_opened (length bytes) (behind_at requests.cases n o i) ≡ Ok r → ReadAs bytes r
kind_read bytes r n i type_is (Some k) known is = structure_read bytes r n i k type_is known ((requests.cases k).at i) refl is
kind_read bytes r n i type_is None known is = absurd cc

type_read : (bytes : List ℕ) (r : Request) (x : Result (ℕ × Input) Fault) → type_at (input 0 bytes) ≡ x
    → judged_opened (length bytes) (passed x (λ n. behind_at requests.cases n (service requests n))) ≡ Ok r → ReadAs bytes r
type_read bytes r (Ok x) e is = kind_read bytes r x.0 x.1 e (service requests x.0) refl is
type_read bytes r (Err Short) e is = absurd cc
type_read bytes r (Err (Bad place code)) e is = absurd cc

read_as : (bytes : List ℕ) (r : Request) → body_at requests bytes ≡ Ok r → ReadAs bytes r
read_as bytes r is = type_read bytes r (type_at (input 0 bytes)) refl is

header_read : (bytes : List ℕ) (r : Request) (x : ReadAs bytes r) (begins : Begins x.place (header_of r)) → header_at bytes ≡ Ok (header_of r)
header_read bytes r x begins =
    ap (λ (t : Result (ℕ × Input) Fault). judged_head (length bytes) (passed t (λ n. a_request_header.at))) x.type_is ∙ ap (judged_head (length bytes)) begins.is

-- what is read as a request begins with its header
pub header_is_read : (bytes : List ℕ) (r : Request) → body_at requests bytes ≡ Ok r → header_at bytes ≡ Ok (header_of r)
header_is_read bytes r is =
    let x = read_as bytes r is in
    header_read bytes r x (request_gives x.kind x.place r x.after x.read).0

-- what is asked by a body that is read: the request, where a message may ask for it
pub asked_when_read : (bytes : List ℕ) (r : Request) → body_at requests bytes ≡ Ok r
    → request_at bytes ≡ (if is_service (request_put r).kind then Ok r else Err (faults.Service (header_of r).request_handle))
asked_when_read bytes r is =
    let x = read_as bytes r is in
    let gives = request_gives x.kind x.place r x.after x.read in
    let handle : ℕ = (header_of r).request_handle in
    ap (asked_behind bytes) (header_read bytes r x gives.0)
    ∙ ap (λ (t : Result (ℕ × Input) Fault). asked_of handle bytes (judged_type (length bytes) t)) x.type_is
    ∙ ap (λ (o : Option RequestType). if names_service o then asked_by handle (body_at requests bytes) else Err (faults.Service handle)) x.known
    ∙ ap (λ (b : Result Request BodyFault). if is_service x.kind then asked_by handle b else Err (faults.Service handle)) is
    ∙ ap (λ (k : RequestType). if is_service k then Ok r else Err (faults.Service handle)) (sym gives.1)

pub service_asked : (bytes : List ℕ) (r : Request) → is_service (request_put r).kind ≡ true → body_at requests bytes ≡ Ok r → request_at bytes ≡ Ok r
service_asked bytes r service is =
    asked_when_read bytes r is ∙ ap (λ (b : Bool). if b then Ok r else Err (faults.Service (header_of r).request_handle)) service

pub none_asked : (bytes : List ℕ) (r : Request) → is_service (request_put r).kind ≡ false → body_at requests bytes ≡ Ok r
    → request_at bytes ≡ Err (faults.Service (header_of r).request_handle)
none_asked bytes r service is =
    asked_when_read bytes r is ∙ ap (λ (b : Bool). if b then Ok r else Err (faults.Service (header_of r).request_handle)) service

-- what is told of a body of which this was read
pub service_told : (bytes : List ℕ) (read : Result Request BodyFault) (r : Request) → read ≡ Ok r → is_service (request_put r).kind ≡ true
    → Answers read (body_at requests bytes) → Asks (told read None) (request_at bytes)
service_told bytes read r is service = subst (λ (x : Result Request BodyFault). Answers x (body_at requests bytes) → Asks (told x None) (request_at bytes)) (sym is) (service_asked bytes r service)

pub none_told : (bytes : List ℕ) (read : Result Request BodyFault) (r : Request) (header : RequestHeader) → read ≡ Ok r → header ≡ header_of r → is_service (request_put r).kind ≡ false
    → Answers read (body_at requests bytes) → request_at bytes ≡ Err (faults.Service header.request_handle)
none_told bytes read r header is header_is service =
    subst (λ (x : Result Request BodyFault). Answers x (body_at requests bytes) → request_at bytes ≡ Err (faults.Service header.request_handle)) (sym is)
    (subst (λ (h : RequestHeader). body_at requests bytes ≡ Ok r → request_at bytes ≡ Err (faults.Service h.request_handle)) (sym header_is) (none_asked bytes r service))
