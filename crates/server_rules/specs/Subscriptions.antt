-- CreateSubscription, ModifySubscription, SetPublishingMode, Republish, TransferSubscriptions and DeleteSubscriptions
-- (OPC 10000-4, 5.13.2 to 5.13.4 and 5.13.6 to 5.13.8).
use Rattle.std.specs.Prelude.{ℕ, ◌+◌, ◌*◌, ◌||◌, List, [], ◌∷◌, ◌++◌, Bool, true, false, length, nat_le, Option, Some, None, Result, Ok, Err, if◌then◌else◌}
use Rattle.ua_base.specs.Status.{good, bad_message_not_available, bad_subscription_id_invalid, bad_too_many_subscriptions}
use Rattle.ua_structures.specs.declared.header.ResponseHeader.{ResponseHeader}
use Rattle.ua_sub_msgs.specs.declared.notification.NotificationMessage.{NotificationMessage}
use Rattle.ua_sub_msgs.specs.declared.publish.RepublishRequest.{RepublishRequest}
use Rattle.ua_sub_msgs.specs.declared.reply.SubReply.TheVariants as sub_reply
use Rattle.ua_sub_msgs.specs.declared.subscription.CreateSubscriptionRequest.{CreateSubscriptionRequest}
use Rattle.ua_sub_msgs.specs.declared.subscription.DeleteSubscriptionsRequest.{DeleteSubscriptionsRequest}
use Rattle.ua_sub_msgs.specs.declared.subscription.ModifySubscriptionRequest.{ModifySubscriptionRequest}
use Rattle.ua_sub_msgs.specs.declared.subscription.SetPublishingModeRequest.{SetPublishingModeRequest}
use Rattle.ua_sub_msgs.specs.declared.subscription.TransferResult.{TransferResult}
use Rattle.ua_sub_msgs.specs.declared.subscription.TransferSubscriptionsRequest.{TransferSubscriptionsRequest}
use Rattle.ua_services.specs.declared.reply.Reply.{Reply}
use Rattle.ua_services.specs.declared.reply.Reply.TheVariants as reply
use Rattle.retransmit.specs.Kept.{message_of, numbers_of}
use Rattle.sessions.specs.Table as table
use Rattle.subscription.specs.declared.spec.SubSpec.{SubSpec}
use Rattle.subscription.specs.State.{SubState}
use Rattle.subscription.specs.Calls.{modified, new_sub, with_enabled}
use Rattle.server_rules.specs.declared.conn.Asker.{Asker}
use Rattle.server_rules.specs.State.{ServerState, sub_at, with_sub, without_sub}
use Rattle.server_rules.specs.Said.{Did, and_then, each, nothing}
use Rattle.server_rules.specs.Durations.{duration_bits, revised_duration, revised_keep_alive, revised_lifetime, revised_most}
use Rattle.server_rules.specs.Moves.{deleted, owns, transferred_sub}
use Rattle.server_rules.specs.Operations.{◌>>=◌, after_each, answered, answers, coded_results, done, leaves, operations_fault, own_or_fault, own_sub, passes, wanted}

-- ---- what is revised (OPC 10000-4, 5.13.2)

-- from the publishing interval, the lifetime count, the keep-alive count and the most notifications that are asked for
unfoldable pub revised_spec : ℕ → Bool → ℕ → ℕ → ℕ → ℕ → SubSpec
revised_spec id enabled interval lifetime keep_alive most = record {
  id = id;
  interval = revised_duration 10 3600000 interval;
  keep_alive = revised_keep_alive keep_alive;
  lifetime = revised_lifetime (revised_keep_alive keep_alive) lifetime;
  most = revised_most most;
  enabled = enabled;
}

-- ---- CreateSubscription (OPC 10000-4, 5.13.2)

-- the id after so many others of a life: ids differ from those of other lives
abbrev pub sub_id : ℕ → ℕ → ℕ
sub_id boot made = boot * 65536 + (made + 1)

-- at most 32 exist, and at most 65,535 are made in a life
abbrev pub is_full : ServerState → Bool
is_full s = nat_le 32 (length s.subs) || nat_le 65535 s.made

abbrev pub asked_spec : CreateSubscriptionRequest → ServerState → SubSpec
asked_spec request s =
    revised_spec (sub_id s.config.boot s.made) request.publishing_enabled request.requested_publishing_interval
    request.requested_lifetime_count request.requested_max_keep_alive_count request.max_notifications_per_publish

-- its first cycle is an interval from now, and the session owns it; nothing else is kept under its id
unfoldable pub with_new_sub : ℕ → SubSpec → ServerState → ServerState
with_new_sub session spec s = record s {
  made = s.made + 1;
  subs = without_sub spec.id s.subs ++ new_sub spec s.age ∷ [];
  sessions = table.owned spec.id session (table.disowned spec.id s.sessions);
}

abbrev pub created_reply : SubSpec → ResponseHeader → Reply
created_reply spec header = reply.Subscription (sub_reply.CreateSubscription (record {
  response_header = header;
  subscription_id = spec.id;
  revised_publishing_interval = duration_bits spec.interval;
  revised_lifetime_count = spec.lifetime;
  revised_max_keep_alive_count = spec.keep_alive;
}))

abbrev pub new_checked : CreateSubscriptionRequest → ServerState → Result SubSpec ℕ
new_checked request s = if is_full s then Err bad_too_many_subscriptions else Ok (asked_spec request s)

abbrev pub create_one : Asker → ℕ → SubSpec → ServerState → Did
create_one asker session spec s = answered asker (created_reply spec) (with_new_sub session spec s)

unfoldable pub create_sub : Asker → ℕ → CreateSubscriptionRequest → ServerState → Did
create_sub asker session request s = done asker (create_one asker session) (new_checked request s) s

-- ---- ModifySubscription (OPC 10000-4, 5.13.3)

abbrev pub changed_spec : ModifySubscriptionRequest → SubState → SubSpec
changed_spec request sub =
    revised_spec request.subscription_id sub.spec.enabled request.requested_publishing_interval
    request.requested_lifetime_count request.requested_max_keep_alive_count request.max_notifications_per_publish

abbrev pub modified_reply : SubSpec → ResponseHeader → Reply
modified_reply spec header = reply.Subscription (sub_reply.ModifySubscription (record {
  response_header = header;
  revised_publishing_interval = duration_bits spec.interval;
  revised_lifetime_count = spec.lifetime;
  revised_max_keep_alive_count = spec.keep_alive;
}))

abbrev pub modify_one : Asker → SubSpec → ServerState → Did
modify_one asker spec s = answered asker (modified_reply spec) (with_sub spec.id (modified spec s.age) s)

abbrev pub modify_checked : ℕ → ModifySubscriptionRequest → ServerState → Result SubSpec ℕ
modify_checked session request s = do
  sub ← own_or_fault session request.subscription_id s
  Ok (changed_spec request sub)

unfoldable pub modify_sub : Asker → ℕ → ModifySubscriptionRequest → ServerState → Did
modify_sub asker session request s = done asker (modify_one asker) (modify_checked session request s) s

-- ---- SetPublishingMode (OPC 10000-4, 5.13.4)

abbrev pub own_result : Option SubState → ℕ
own_result None = bad_subscription_id_invalid
own_result (Some sub) = good

unfoldable pub sub_known : ℕ → ℕ → ServerState → ℕ
sub_known session id s = own_result (own_sub session id s)

abbrev pub enabled_if : Bool → Option SubState → ℕ → ServerState → ServerState
enabled_if enabled None id s = s
enabled_if enabled (Some sub) id s = with_sub id (with_enabled enabled) s

unfoldable pub with_publishing : ℕ → Bool → ℕ → ServerState → ServerState
with_publishing session enabled id s = enabled_if enabled (own_sub session id s) id s

abbrev pub publishing_reply : List ℕ → ResponseHeader → Reply
publishing_reply codes header = reply.Subscription (sub_reply.SetPublishingMode (coded_results codes header))

abbrev pub enable_all : Asker → ℕ → Bool → List ℕ → Unit {0} → ServerState → Did
enable_all asker session enabled ids _ s =
    answered asker (publishing_reply (answers (sub_known session) (with_publishing session enabled) ids s))
    (after_each (with_publishing session enabled) ids s)

unfoldable pub set_publishing : Asker → ℕ → SetPublishingModeRequest → ServerState → Did
set_publishing asker session request s =
    done asker (enable_all asker session request.publishing_enabled request.subscription_ids)
    (passes (operations_fault (length request.subscription_ids))) s

-- ---- Republish (OPC 10000-4, 5.13.6)

abbrev pub republished_reply : NotificationMessage → ResponseHeader → Reply
republished_reply message header = reply.Subscription (sub_reply.Republish
    (record { response_header = header; notification_message = message }))

abbrev pub republish_one : Asker → NotificationMessage → ServerState → Did
republish_one asker message s = answered asker (republished_reply message) s

abbrev pub republish_checked : ℕ → RepublishRequest → ServerState → Result NotificationMessage ℕ
republish_checked session request s = do
  sub ← own_or_fault session request.subscription_id s
  wanted bad_message_not_available (message_of request.retransmit_sequence_number sub.kept)

unfoldable pub republish : Asker → ℕ → RepublishRequest → ServerState → Did
republish asker session request s = done asker (republish_one asker) (republish_checked session request s) s

-- ---- TransferSubscriptions (OPC 10000-4, 5.13.7)

-- the subscription of this id, where the session may have it: its client owned it last
abbrev pub sub_to_move : ℕ → ℕ → ServerState → Option SubState
sub_to_move session id s = if table.may_transfer id session s.sessions then sub_at id s.subs else None

abbrev pub transfer_told : Option SubState → TransferResult
transfer_told None = record { status_code = bad_subscription_id_invalid; available_sequence_numbers = [] }
transfer_told (Some sub) = record { status_code = good; available_sequence_numbers = numbers_of sub.kept }

-- the numbers of the messages that are kept at this moment
unfoldable pub transfer_result : ℕ → ℕ → ServerState → TransferResult
transfer_result session id s = transfer_told (sub_to_move session id s)

-- it goes to the session, and the former owner is told
unfoldable pub transfer_one : ℕ → ℕ → ServerState → Did
transfer_one session id s = transferred_sub id session s

abbrev pub transfer_reply : List TransferResult → ResponseHeader → Reply
transfer_reply results header = reply.Subscription (sub_reply.TransferSubscriptions
    (record { response_header = header; results = results; diagnostic_infos = record {} }))

-- what is said to former owners comes before the reply
abbrev pub transfer_all : Asker → ℕ → List ℕ → Unit {0} → ServerState → Did
transfer_all asker session ids _ s =
    and_then
    (answered asker
    (transfer_reply (answers (transfer_result session) (leaves (transfer_one session)) ids s)))
    (each (transfer_one session) ids s)

unfoldable pub transfer_subs : Asker → ℕ → TransferSubscriptionsRequest → ServerState → Did
transfer_subs asker session request s =
    done asker (transfer_all asker session request.subscription_ids)
    (passes (operations_fault (length request.subscription_ids))) s

-- ---- DeleteSubscriptions (OPC 10000-4, 5.13.8)

abbrev pub deleted_if : Option SubState → ℕ → ServerState → Did
deleted_if None id s = nothing s
deleted_if (Some sub) id s = deleted id s

unfoldable pub delete_one : ℕ → ℕ → ServerState → Did
delete_one session id s = deleted_if (own_sub session id s) id s

abbrev pub deleted_reply : List ℕ → ResponseHeader → Reply
deleted_reply codes header = reply.Subscription (sub_reply.DeleteSubscriptions (coded_results codes header))

-- queued Publishes of a session that has no subscription left are answered before the reply
abbrev pub delete_all : Asker → ℕ → List ℕ → Unit {0} → ServerState → Did
delete_all asker session ids _ s =
    and_then
    (answered asker
    (deleted_reply (answers (sub_known session) (leaves (delete_one session)) ids s)))
    (each (delete_one session) ids s)

unfoldable pub delete_subs : Asker → ℕ → DeleteSubscriptionsRequest → ServerState → Did
delete_subs asker session request s =
    done asker (delete_all asker session request.subscription_ids)
    (passes (operations_fault (length request.subscription_ids))) s
