-- What a body asks of a server: the service, or why there is none to ask (OPC 10000-4, 7.34 names the codes of the
-- replies).
use Rattle.std.specs.Prelude.{◌≡◌, ◌≤◌, ℕ, List, length, take, Bool, true, false, Option, Some, None, Result, Ok, Err}
use Rattle.std.specs.Prelude.{if◌then◌else◌}
use Rattle.ua_structures.specs.declared.header.RequestHeader.{RequestHeader}
use Rattle.ua_structures.specs.declared.body.BodyFault.{BodyFault}
use Rattle.ua_structures.specs.declared.front.BodyType.{BodyType}
use Rattle.ua_structures.specs.Body.{service, body_at, body_type_at, is_body, type_id}
use Rattle.ua_structures.specs.Header.{header_at, is_head}
use Rattle.ua_session_msgs.specs.declared.request.SessionRequest.{SessionRequest}
use Rattle.ua_session_msgs.specs.declared.request.SessionRequest.TheVariants as session_request
use Rattle.ua_session_msgs.specs.declared.request.SessionRequestType.TheVariants as session_type
use Rattle.ua_sub_msgs.specs.declared.request.SubRequest.{SubRequest}
use Rattle.ua_sub_msgs.specs.declared.request.SubRequest.TheVariants as sub_request
use Rattle.ua_services.specs.declared.request.Request.{Request}
use Rattle.ua_services.specs.declared.request.Request.TheVariants as request
use Rattle.ua_services.specs.declared.request.RequestType.{RequestType}
use Rattle.ua_services.specs.declared.request.RequestType.TheVariants as request_type
use Rattle.ua_services.specs.declared.request.RequestFault.{RequestFault}
use Rattle.ua_services.specs.declared.request.RequestFault.TheVariants as faults
use Rattle.ua_services.specs.Families.{requests, request_put}

-- what every request begins with
abbrev pub session_header : SessionRequest → RequestHeader
session_header (session_request.OpenSecureChannel r) = r.request_header
session_header (session_request.CloseSecureChannel r) = r
session_header (session_request.FindServers r) = r.request_header
session_header (session_request.GetEndpoints r) = r.request_header
session_header (session_request.CreateSession r) = r.request_header
session_header (session_request.ActivateSession r) = r.request_header
session_header (session_request.CloseSession r) = r.request_header
session_header (session_request.Read r) = r.request_header
session_header (session_request.Call r) = r.request_header

abbrev pub sub_header : SubRequest → RequestHeader
sub_header (sub_request.CreateMonitoredItems r) = r.request_header
sub_header (sub_request.SetMonitoringMode r) = r.request_header
sub_header (sub_request.DeleteMonitoredItems r) = r.request_header
sub_header (sub_request.CreateSubscription r) = r.request_header
sub_header (sub_request.ModifySubscription r) = r.request_header
sub_header (sub_request.SetPublishingMode r) = r.request_header
sub_header (sub_request.Publish r) = r.request_header
sub_header (sub_request.Republish r) = r.request_header
sub_header (sub_request.TransferSubscriptions r) = r.request_header
sub_header (sub_request.DeleteSubscriptions r) = r.request_header

abbrev pub header_of : Request → RequestHeader
header_of (request.Session r) = session_header r
header_of (request.Subscription r) = sub_header r

-- OpenSecureChannel and CloseSecureChannel are no services of a message: each stands in chunks of its own kind (OPC
-- 10000-6, 6.7.2)
abbrev pub is_service : RequestType → Bool
is_service (request_type.Session session_type.OpenSecureChannel) = false
is_service (request_type.Session session_type.CloseSecureChannel) = false
is_service _ = true

abbrev pub names_service : Option RequestType → Bool
names_service (Some k) = is_service k
names_service None = false

-- the body of a service, behind a header with this handle
abbrev pub asked_by : ℕ → Result Request BodyFault → Result Request RequestFault
asked_by handle (Ok r) = Ok r
asked_by handle (Err fault) = Err (faults.Body handle)

abbrev pub asked_of : ℕ → List ℕ → Result BodyType BodyFault → Result Request RequestFault
asked_of handle bytes (Ok t) =
    if names_service (service requests t.id) then asked_by handle (body_at requests bytes)
    else Err (faults.Service handle)
asked_of handle bytes (Err fault) = Err faults.Header

-- first the header is looked at, then the type, then all of it
abbrev pub asked_behind : List ℕ → Result RequestHeader BodyFault → Result Request RequestFault
asked_behind bytes (Ok header) = asked_of header.request_handle bytes (body_type_at bytes)
asked_behind bytes (Err fault) = Err faults.Header

abbrev pub request_at : List ℕ → Result Request RequestFault
request_at bytes = asked_behind bytes (header_at bytes)

-- what a call answered is this, unless memory was refused
abbrev pub Asks : Result Request RequestFault → Result Request RequestFault → Type 0
Asks (Ok r) asked = asked ≡ Ok r
Asks (Err faults.Header) asked = asked ≡ Err faults.Header
Asks (Err (faults.Service handle)) asked = asked ≡ Err (faults.Service handle)
Asks (Err (faults.Body handle)) asked = asked ≡ Err (faults.Body handle)
Asks (Err faults.OutOfMemory) asked = Unit {0}

-- what was read, unless it is refused
abbrev pub told : {A : Type 0} → Result A BodyFault → Option RequestFault → Result A RequestFault
told read (Some fault) = Err fault
told (Ok a) None = Ok a
told (Err fault) None = Err faults.OutOfMemory

-- ---- the same in the words of the grammar

-- a type and this header stand at the front
abbrev pub HasHeader : List ℕ → RequestHeader → Type 0
HasHeader bytes header = (size : ℕ) × (size ≤ length bytes) × is_head header (take size bytes)

-- this type stands at the front
abbrev pub HasType : List ℕ → ℕ → Type 0
HasType bytes n = (size : ℕ) × type_id n (take size bytes)

-- some header with this handle stands at the front
abbrev pub HasHandle : List ℕ → ℕ → Type 0
HasHandle bytes handle = (header : RequestHeader) × HasHeader bytes header × (header.request_handle ≡ handle)

-- The bytes are the body of a request of a service; or no header stands at their front; or one stands there, and the
-- type is that of no service; or it is, and the bytes are the body of no request.
abbrev pub IsAsked : List ℕ → Result Request RequestFault → Type 0
IsAsked bytes (Ok r) = is_body requests r bytes × (is_service (request_put r).kind ≡ true)
IsAsked bytes (Err faults.Header) = (header : RequestHeader) → HasHeader bytes header → ⊥
IsAsked bytes (Err (faults.Service handle)) =
    HasHandle bytes handle × ((n : ℕ) → HasType bytes n → names_service (service requests n) ≡ false)
IsAsked bytes (Err (faults.Body handle)) =
    HasHandle bytes handle × ((n : ℕ) → HasType bytes n → names_service (service requests n) ≡ true)
    × ((r : Request) → is_body requests r bytes → ⊥)
IsAsked bytes (Err faults.OutOfMemory) = Unit {0}
