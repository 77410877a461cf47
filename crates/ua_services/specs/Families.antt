-- The requests of both families as one family, and the replies: which structure may be a body, and how a value of each
-- is written.
use Rattle.std.specs.Prelude.{◌≡◌, ◌==◌, ◌<◌, ◌^◌, ℕ, List, ◌++◌, map, Some, refl}
use Rattle.std.specs.List.{find}
use Rattle.ua_values.specs.Reading.{◌>>=◌, give}
use Rattle.ua_values.proofs.Nesting.{reads_mapped}
use Rattle.ua_structures.specs.Body.{Case, Family, Put, written_by}
use Rattle.ua_session_msgs.specs.declared.request.SessionRequestType.TheVariants as session_request
use Rattle.ua_session_msgs.specs.declared.reply.SessionReplyType.TheVariants as session_reply
use Rattle.ua_session_msgs.specs.Numbers as session_numbers
use Rattle.ua_session_msgs.specs.Families as session
use Rattle.ua_sub_msgs.specs.declared.request.SubRequestType.TheVariants as sub_request
use Rattle.ua_sub_msgs.specs.declared.reply.SubReplyType.TheVariants as sub_reply
use Rattle.ua_sub_msgs.specs.Numbers as sub_numbers
use Rattle.ua_sub_msgs.specs.Families as sub
use Rattle.ua_services.specs.declared.request.Request.{Request}
use Rattle.ua_services.specs.declared.request.Request.TheVariants as request
use Rattle.ua_services.specs.declared.request.RequestType.{RequestType}
use Rattle.ua_services.specs.declared.request.RequestType.TheVariants as request_type
use Rattle.ua_services.specs.declared.reply.Reply.{Reply}
use Rattle.ua_services.specs.declared.reply.Reply.TheVariants as reply
use Rattle.ua_services.specs.declared.reply.ReplyType.{ReplyType}
use Rattle.ua_services.specs.declared.reply.ReplyType.TheVariants as reply_type

-- a structure of one family, as a value of a larger one
abbrev pub within : {A B : Type 0} → Case A → (A → B) → Case B
within {A = A} one make = record {
  spells = λ b bytes. (a : A) × (b ≡ make a) × one.spells a bytes;
  cut = one.cut;
  at = one.at >>= λ a. give (make a);
  reads = reads_mapped one.spells one.cut one.at make one.reads;
}

-- how it is written, as that of the larger one
abbrev pub put_within : {K L : Type 0} → (K → L) → Put K → Put L
put_within make one = record { kind = make one.kind; text = one.text; keeps = one.keeps }

-- ---- requests

abbrev pub request_id : RequestType → ℕ
request_id (request_type.Session k) = session_numbers.request_id k
request_id (request_type.Subscription k) = sub_numbers.request_id k

abbrev pub every_request : List RequestType
every_request =
    map request_type.Session session_numbers.every_request ++ map request_type.Subscription sub_numbers.every_request

-- no two have one number
pub request_known : (k : RequestType) → find (λ other. request_id other == request_id k) every_request ≡ Some k
request_known (request_type.Session session_request.OpenSecureChannel) = refl
request_known (request_type.Session session_request.CloseSecureChannel) = refl
request_known (request_type.Session session_request.FindServers) = refl
request_known (request_type.Session session_request.GetEndpoints) = refl
request_known (request_type.Session session_request.CreateSession) = refl
request_known (request_type.Session session_request.ActivateSession) = refl
request_known (request_type.Session session_request.CloseSession) = refl
request_known (request_type.Session session_request.Read) = refl
request_known (request_type.Session session_request.Call) = refl
request_known (request_type.Subscription sub_request.CreateMonitoredItems) = refl
request_known (request_type.Subscription sub_request.SetMonitoringMode) = refl
request_known (request_type.Subscription sub_request.DeleteMonitoredItems) = refl
request_known (request_type.Subscription sub_request.CreateSubscription) = refl
request_known (request_type.Subscription sub_request.ModifySubscription) = refl
request_known (request_type.Subscription sub_request.SetPublishingMode) = refl
request_known (request_type.Subscription sub_request.Publish) = refl
request_known (request_type.Subscription sub_request.Republish) = refl
request_known (request_type.Subscription sub_request.TransferSubscriptions) = refl
request_known (request_type.Subscription sub_request.DeleteSubscriptions) = refl

pub request_small : (k : RequestType) → request_id k < 2 ^ 32
request_small (request_type.Session k) = session_numbers.request_small k
request_small (request_type.Subscription k) = sub_numbers.request_small k

abbrev pub request_case : RequestType → Case Request
request_case (request_type.Session k) = within (session.request_case k) request.Session
request_case (request_type.Subscription k) = within (sub.request_case k) request.Subscription

abbrev pub requests : Family RequestType Request
requests =
    record { all = every_request; id = request_id; cases = request_case; known = request_known; small = request_small }

abbrev pub request_put : Request → Put RequestType
request_put (request.Session r) = put_within request_type.Session (session.request_put r)
request_put (request.Subscription r) = put_within request_type.Subscription (sub.request_put r)

-- the body of a request
abbrev pub written_request : Request → List ℕ
written_request r = written_by requests request_put r

-- ---- replies

abbrev pub reply_id : ReplyType → ℕ
reply_id (reply_type.Session k) = session_numbers.reply_id k
reply_id (reply_type.Subscription k) = sub_numbers.reply_id k

abbrev pub every_reply : List ReplyType
every_reply = map reply_type.Session session_numbers.every_reply ++ map reply_type.Subscription sub_numbers.every_reply

-- no two have one number
pub reply_known : (k : ReplyType) → find (λ other. reply_id other == reply_id k) every_reply ≡ Some k
reply_known (reply_type.Session session_reply.ServiceFault) = refl
reply_known (reply_type.Session session_reply.OpenSecureChannel) = refl
reply_known (reply_type.Session session_reply.CloseSecureChannel) = refl
reply_known (reply_type.Session session_reply.FindServers) = refl
reply_known (reply_type.Session session_reply.GetEndpoints) = refl
reply_known (reply_type.Session session_reply.CreateSession) = refl
reply_known (reply_type.Session session_reply.ActivateSession) = refl
reply_known (reply_type.Session session_reply.CloseSession) = refl
reply_known (reply_type.Session session_reply.Read) = refl
reply_known (reply_type.Session session_reply.Call) = refl
reply_known (reply_type.Subscription sub_reply.CreateMonitoredItems) = refl
reply_known (reply_type.Subscription sub_reply.SetMonitoringMode) = refl
reply_known (reply_type.Subscription sub_reply.DeleteMonitoredItems) = refl
reply_known (reply_type.Subscription sub_reply.CreateSubscription) = refl
reply_known (reply_type.Subscription sub_reply.ModifySubscription) = refl
reply_known (reply_type.Subscription sub_reply.SetPublishingMode) = refl
reply_known (reply_type.Subscription sub_reply.Publish) = refl
reply_known (reply_type.Subscription sub_reply.Republish) = refl
reply_known (reply_type.Subscription sub_reply.TransferSubscriptions) = refl
reply_known (reply_type.Subscription sub_reply.DeleteSubscriptions) = refl

pub reply_small : (k : ReplyType) → reply_id k < 2 ^ 32
reply_small (reply_type.Session k) = session_numbers.reply_small k
reply_small (reply_type.Subscription k) = sub_numbers.reply_small k

abbrev pub reply_case : ReplyType → Case Reply
reply_case (reply_type.Session k) = within (session.reply_case k) reply.Session
reply_case (reply_type.Subscription k) = within (sub.reply_case k) reply.Subscription

abbrev pub replies : Family ReplyType Reply
replies = record { all = every_reply; id = reply_id; cases = reply_case; known = reply_known; small = reply_small }

abbrev pub reply_put : Reply → Put ReplyType
reply_put (reply.Session r) = put_within reply_type.Session (session.reply_put r)
reply_put (reply.Subscription r) = put_within reply_type.Subscription (sub.reply_put r)

-- the body of a reply
abbrev pub written_reply : Reply → List ℕ
written_reply r = written_by replies reply_put r
