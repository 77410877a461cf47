-- What a link does in the phase Ready: replies to Publish, Read and SetMonitoringMode (OPC 10000-4, 5.10.2, 5.12.4 and
-- 5.13.5).
use Rattle.std.specs.Prelude.{ℕ, ◌==◌, ◌&&◌, nat_lt, List, [], ◌∷◌, Bool, true, false, Option, Some, None, if◌then◌else◌}
use Rattle.ua_base.specs.declared.modes.Mode.{Mode}
use Rattle.ua_base.specs.declared.modes.Mode.TheVariants.{Disabled, Sampling, Reporting}
use Rattle.ua_base.specs.Status.{bad_no_subscription, bad_too_many_publish_requests}
use Rattle.ua_variants.specs.declared.variant.Scalar.TheVariants as scalar
use Rattle.ua_variants.specs.declared.variant.Variant.{Variant, out-Variant}
use Rattle.ua_variants.specs.declared.variant.Variant.TheOpen.{Variant-F}
use Rattle.ua_variants.specs.declared.variant.Stamped.{Stamped}
use Rattle.ua_structures.specs.declared.header.ResponseHeader.{ResponseHeader}
use Rattle.ua_session_msgs.specs.declared.attribute.ReadResponse.{ReadResponse}
use Rattle.ua_session_msgs.specs.declared.reply.SessionReply.TheVariants as session_reply
use Rattle.ua_sub_msgs.specs.declared.notification.NotificationMessage.{NotificationMessage}
use Rattle.ua_sub_msgs.specs.declared.publish.PublishResponse.{PublishResponse}
use Rattle.ua_sub_msgs.specs.declared.results.ResultsResponse.{ResultsResponse}
use Rattle.ua_sub_msgs.specs.declared.reply.SubReply.TheVariants as sub_reply
use Rattle.ua_services.specs.declared.reply.Reply.{Reply}
use Rattle.ua_services.specs.declared.reply.Reply.TheVariants as reply
use Rattle.link_rules.specs.declared.content.Content.{Content}
use Rattle.link_rules.specs.declared.content.Content.TheVariants as content
use Rattle.link_rules.specs.declared.conversation.Asked.{Asked}
use Rattle.link_rules.specs.declared.notice.Notice.TheVariants as notice
use Rattle.link_rules.specs.declared.phase.Publishes.{Publishes}
use Rattle.link_rules.specs.declared.phase.Publishes.TheVariants.{Zero, One, Two}
use Rattle.link_rules.specs.declared.phase.ReadyState.{ReadyState}
use Rattle.link_rules.specs.declared.phase.Setting.{Setting}
use Rattle.link_rules.specs.declared.remembered.Remembered.{Remembered}
use Rattle.link_rules.specs.State.{LinkState, with_conversation, with_ready}
use Rattle.link_rules.specs.Said.{LinkDid, and_then, nothing, tells}
use Rattle.link_rules.specs.Closing.{broken}
use Rattle.link_rules.specs.Asking.{is_good, is_reply_to}
use Rattle.link_rules.specs.Messages.{content_of, data_taken, kept_alive}
use Rattle.link_rules.specs.Publishing.{fills, sets_mode, subscribes}

-- ---- replies to Publish

-- what isn't answered but for the request of this handle, where it is one of these
abbrev pub answered : ℕ → Publishes → Option Publishes
answered handle Zero = None
answered handle (One first) = if first == handle then Some Zero else None
answered handle (Two first second) =
    if first == handle then Some (One second)
    else if second == handle then Some (One first)
    else None

-- the subscription is gone, and another one is made
unfoldable pub restarts : LinkState → LinkDid
restarts l = and_then subscribes (tells (notice.Lost ∷ []) l)

-- what came of a message is followed by one more Publish, where the link is still ready
unfoldable pub brings : Content → ℕ → Remembered → LinkState → LinkDid
brings content.Alive number remembered l = and_then fills (kept_alive number remembered l)
brings content.Ended number remembered l = restarts l
brings (content.Values values) number remembered l = and_then fills (data_taken number values remembered l)
brings content.Unread number remembered l = broken l

abbrev pub message_brings : NotificationMessage → Remembered → LinkState → LinkDid
message_brings message remembered l =
    brings (content_of message.notification_data) message.sequence_number remembered l

-- the link has heard of its subscription
abbrev pub heard_of_it : Publishes → ReadyState → LinkState → LinkState
heard_of_it left ready l = record (with_ready (record ready { publishes = left }) l) { since = l.age }

unfoldable pub publish_replied_by : Option Publishes → Option Remembered → PublishResponse → ReadyState → LinkState → LinkDid
publish_replied_by (Some left) (Some remembered) r ready l =
    if is_good r.response_header.service_result && (r.subscription_id == remembered.id)
    then message_brings r.notification_message remembered (heard_of_it left ready l)
    else broken l
publish_replied_by (Some left) None r ready l = broken l
publish_replied_by None remembered r ready l = broken l

-- a message of the subscription
unfoldable pub publish_replied : PublishResponse → ReadyState → LinkState → LinkDid
publish_replied r ready l =
    publish_replied_by (answered r.response_header.request_handle ready.publishes) l.remembered r ready l

-- the server takes no more of them, and one fewer waits there; or it has no subscription
abbrev pub publish_refused_by : Option Publishes → ℕ → ReadyState → LinkState → LinkDid
publish_refused_by (Some left) code ready l =
    if code == bad_too_many_publish_requests then nothing (with_ready (record ready { publishes = left }) l)
    else if code == bad_no_subscription then restarts l
    else broken l
publish_refused_by None code ready l = broken l

-- a ServiceFault
unfoldable pub publish_refused : ResponseHeader → ReadyState → LinkState → LinkDid
publish_refused h ready l = publish_refused_by (answered h.request_handle ready.publishes) h.service_result ready l

-- ---- replies to Read

abbrev pub byte_of : Variant-F Variant → Option ℕ
byte_of (Variant-F.Scalar (scalar.Byte number)) = Some number
byte_of other = None

abbrev pub byte_in : Option Variant → Option ℕ
byte_in None = None
byte_in (Some value) = byte_of (out-Variant value)

-- a status that isn't there is good
abbrev pub is_good_status : Option ℕ → Bool
is_good_status None = true
is_good_status (Some code) = is_good code

-- a ServiceLevel
abbrev pub level_of : Stamped Variant → Option ℕ
level_of value = if is_good_status value.status then byte_in value.value else None

abbrev pub one_level : List (Stamped Variant) → Option ℕ
one_level [] = None
one_level (value ∷ []) = level_of value
one_level (value ∷ another ∷ more) = None

abbrev pub is_reporting : Mode → Bool
is_reporting Disabled = false
is_reporting Sampling = false
is_reporting Reporting = true

-- in a cold set, where the items report from the beginning, a client leaves a server in Maintenance or without data (OPC
-- 10000-4, 6.6.2.4.2)
abbrev pub is_left : ℕ → LinkState → Bool
is_left level l = is_reporting l.config.rest && nat_lt level 2

unfoldable pub leaves_low : ℕ → LinkState → LinkDid
leaves_low level l = if is_left level l then broken l else nothing l

abbrev pub no_reading : LinkState → LinkState
no_reading l = with_conversation (record l.conversation { reading = None }) l

unfoldable pub level_told : Option ℕ → LinkState → LinkDid
level_told None l = broken l
level_told (Some level) l = and_then (leaves_low level) (tells (notice.Level level ∷ []) (no_reading l))

abbrev pub is_answer_to : Option Asked → ResponseHeader → Bool
is_answer_to None h = false
is_answer_to (Some asked) h = is_reply_to asked.handle h

unfoldable pub level_replied : ReadResponse → LinkState → LinkDid
level_replied r l =
    if is_answer_to l.conversation.reading r.response_header then level_told (one_level r.results) l
    else broken l

-- ---- replies to SetMonitoringMode

unfoldable pub confirms : Setting → ReadyState → LinkState → LinkDid
confirms setting ready l = and_then sets_mode (tells (notice.Confirmed setting.mode ∷ [])
    (with_ready (record ready { setting = None; confirmed = Some setting.mode }) l))

abbrev pub mode_replied_by : Option Setting → ResponseHeader → ReadyState → LinkState → LinkDid
mode_replied_by None h ready l = broken l
mode_replied_by (Some setting) h ready l =
    if is_reply_to setting.asked.handle h then confirms setting ready l else broken l

-- the items have the mode: what each of them answers isn't looked at
unfoldable pub mode_replied : ResultsResponse → ReadyState → LinkState → LinkDid
mode_replied r ready l = mode_replied_by ready.setting r.response_header ready l

-- ---- any reply

unfoldable pub in_ready : Reply → ReadyState → LinkState → LinkDid
in_ready (reply.Session (session_reply.ServiceFault h)) ready l = publish_refused h ready l
in_ready (reply.Session (session_reply.Read r)) ready l = level_replied r l
in_ready (reply.Subscription (sub_reply.Publish r)) ready l = publish_replied r ready l
in_ready (reply.Subscription (sub_reply.SetMonitoringMode r)) ready l = mode_replied r ready l
in_ready other ready l = broken l
