-- How a link comes to a subscription that sends: it takes over the one that it remembers, with the messages that it
-- missed, or makes one with its items (OPC 10000-4, 5.12.2, 5.13.2, 5.13.6 and 5.13.7).
use Rattle.std.specs.Prelude.{ℕ, zero, suc, ◌+◌, ◌==◌, nat_le, List, [], ◌∷◌, ◌++◌, Option, Some, None, if◌then◌else◌}
use Rattle.ua_base.specs.Status.{bad_message_not_available}
use Rattle.ua_structures.specs.declared.header.ResponseHeader.{ResponseHeader}
use Rattle.ua_session_msgs.specs.declared.reply.SessionReply.TheVariants as session_reply
use Rattle.ua_sub_msgs.specs.declared.item.MonitoredItemCreateResult.{MonitoredItemCreateResult}
use Rattle.ua_sub_msgs.specs.declared.notification.NotificationMessage.{NotificationMessage}
use Rattle.ua_sub_msgs.specs.declared.subscription.TransferResult.{TransferResult}
use Rattle.ua_sub_msgs.specs.declared.subscription.TransferSubscriptionsResponse.{TransferSubscriptionsResponse}
use Rattle.ua_sub_msgs.specs.declared.reply.SubReply.TheVariants as sub_reply
use Rattle.ua_services.specs.declared.reply.Reply.{Reply}
use Rattle.ua_services.specs.declared.reply.Reply.TheVariants as reply
use Rattle.link_rules.specs.declared.content.Content.{Content}
use Rattle.link_rules.specs.declared.content.Content.TheVariants as content
use Rattle.link_rules.specs.declared.notice.Notice.{Notice}
use Rattle.link_rules.specs.declared.notice.Notice.TheVariants as notice
use Rattle.link_rules.specs.declared.phase.Phase.{Phase}
use Rattle.link_rules.specs.declared.phase.Phase.TheVariants as phase
use Rattle.link_rules.specs.declared.remembered.Monitored.{Monitored}
use Rattle.link_rules.specs.declared.remembered.Remembered.{Remembered}
use Rattle.link_rules.specs.State.{LinkState, with_phase}
use Rattle.link_rules.specs.Said.{LinkDid, and_then, nothing, tells}
use Rattle.link_rules.specs.Closing.{broken}
use Rattle.link_rules.specs.Asking.{asked, is_answer, is_fault, is_good}
use Rattle.link_rules.specs.Requests.{items_request, republish_request, transfer_request}
use Rattle.link_rules.specs.Numbers.{wanted_of}
use Rattle.link_rules.specs.Messages.{content_of, data_taken, kept_alive}
use Rattle.link_rules.specs.Publishing.{enters_ready, subscribes}

-- ---- the subscription that is remembered

abbrev pub begins_by : Option Remembered → LinkState → LinkDid
begins_by None l = subscribes l
begins_by (Some remembered) l = asked (transfer_request remembered.id l) (with_phase phase.Transferring l)

-- the server may be used
unfoldable pub begins : LinkState → LinkDid
begins l = begins_by l.remembered l

-- the first of the wanted messages is asked for; where none is wanted, the link is ready, and the mode of the items isn't
-- known
unfoldable pub asks_again : List ℕ → Remembered → LinkState → LinkDid
asks_again [] remembered l = enters_ready None l
asks_again (number ∷ wanted) remembered l =
    asked (republish_request remembered.id number l) (with_phase (phase.Republishing wanted) l)

-- the numbers of the kept messages, where the reply tells of the one subscription, and that well
abbrev pub available_in : List TransferResult → Option (List ℕ)
available_in [] = None
available_in (result ∷ []) =
    if is_good result.status_code then Some result.available_sequence_numbers else None
available_in (result ∷ another ∷ more) = None

abbrev pub available_of : TransferSubscriptionsResponse → Option (List ℕ)
available_of r = if is_good r.response_header.service_result then available_in r.results else None

abbrev pub transfers_by : Option (List ℕ) → Option Remembered → LinkState → LinkDid
transfers_by (Some available) (Some remembered) l = asks_again (wanted_of remembered.next available) remembered l
transfers_by (Some available) None l = subscribes l
transfers_by None remembered l = subscribes l

-- to a reply of another request the link isn't bound
unfoldable pub transferred : Option (List ℕ) → ResponseHeader → LinkState → LinkDid
transferred available h l =
    if h.request_handle == l.conversation.last then transfers_by available l.remembered l else broken l

unfoldable pub in_transferring : Reply → LinkState → LinkDid
in_transferring (reply.Session (session_reply.ServiceFault h)) l = transferred None h l
in_transferring (reply.Subscription (sub_reply.TransferSubscriptions r)) l =
    transferred (available_of r) r.response_header l
in_transferring other l = broken l

-- ---- the messages that were missed

abbrev pub wanted_in : Phase → Option (List ℕ)
wanted_in (phase.Republishing wanted) = Some wanted
wanted_in other = None

abbrev pub goes_on_by : Option (List ℕ) → Option Remembered → LinkState → LinkDid
goes_on_by (Some wanted) (Some remembered) l = asks_again wanted remembered l
goes_on_by (Some wanted) None l = nothing l
goes_on_by None remembered l = nothing l

-- the next message, where the link wasn't closed by this one
unfoldable pub goes_on : LinkState → LinkDid
goes_on l = goes_on_by (wanted_in l.phase) l.remembered l

-- a message of another time that the subscription ended has no effect: what is so now is told in Ready
unfoldable pub brings_again : Content → ℕ → Remembered → LinkState → LinkDid
brings_again content.Alive number remembered l = kept_alive number remembered l
brings_again content.Ended number remembered l = nothing l
brings_again (content.Values values) number remembered l = data_taken number values remembered l
brings_again content.Unread number remembered l = broken l

unfoldable pub message_again : NotificationMessage → Option Remembered → LinkState → LinkDid
message_again message None l = broken l
message_again message (Some remembered) l =
    and_then goes_on (brings_again (content_of message.notification_data) message.sequence_number remembered l)

unfoldable pub in_republishing : Reply → LinkState → LinkDid
in_republishing (reply.Session (session_reply.ServiceFault h)) l =
    if is_fault l.conversation.last bad_message_not_available h then goes_on l else broken l
in_republishing (reply.Subscription (sub_reply.Republish r)) l =
    if is_answer r.response_header l then message_again r.notification_message l.remembered l else broken l
in_republishing other l = broken l

-- ---- a new subscription

-- the values of all items begin anew
abbrev pub streams : ℕ → List Notice
streams zero = []
streams (suc count) = streams count ++ notice.Stream (suc count) ∷ []

abbrev pub first_of : ℕ → Remembered
first_of id = record { id = id; next = 1 }

abbrev pub made : ℕ → LinkState → LinkState
made id l = record l { remembered = Some (first_of id); monitored = []; acks = [] }

-- CreateMonitoredItems
unfoldable pub adds_items : ℕ → LinkState → LinkDid
adds_items id l = asked (items_request id l) (with_phase phase.Adding l)

unfoldable pub subscribed : ℕ → LinkState → LinkDid
subscribed id l = and_then (adds_items id) (tells (streams l.config.items) (made id l))

unfoldable pub in_subscribing : Reply → LinkState → LinkDid
in_subscribing (reply.Subscription (sub_reply.CreateSubscription r)) l =
    if is_answer r.response_header l then subscribed r.subscription_id l else broken l
in_subscribing other l = broken l

-- ---- its items

-- an item that was made is one of the subscription
abbrev pub with_item : ℕ → MonitoredItemCreateResult → List Monitored → List Monitored
with_item item result monitored =
    if is_good result.status_code
    then monitored ++ record { item = item; id = result.monitored_item_id } ∷ []
    else monitored

-- results stand in the order of the request; from this item on
abbrev pub monitored_after : ℕ → ℕ → List MonitoredItemCreateResult → List Monitored → List Monitored
monitored_after items item [] monitored = monitored
monitored_after items item (result ∷ results) monitored =
    if nat_le item items then monitored_after items (item + 1) results (with_item item result monitored)
    else monitored

abbrev pub monitored_of : ℕ → List MonitoredItemCreateResult → List Monitored
monitored_of items results = monitored_after items 1 results []

-- one item is enough; the items have the resting mode
unfoldable pub added : List Monitored → LinkState → LinkDid
added [] l = broken l
added (first ∷ more) l = enters_ready (Some l.config.rest) (record l { monitored = first ∷ more })

unfoldable pub in_adding : Reply → LinkState → LinkDid
in_adding (reply.Subscription (sub_reply.CreateMonitoredItems r)) l =
    if is_answer r.response_header l then added (monitored_of l.config.items r.results) l else broken l
in_adding other l = broken l
