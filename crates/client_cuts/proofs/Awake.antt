-- What is heard, or wanted, never gives a link the right to dial: a link that falls waits.
use Rattle.std.proofs.Common.{◌≡◌, ℕ, ℤ, pos, ◌==◌, ◌&&◌, List, [], ◌∷◌, Bool, true, false, Option, Some, None, Result, Ok, Err, if◌then◌else◌, refl}
use Rattle.ua_base.specs.declared.modes.Mode.{Mode}
use Rattle.ua_base.specs.Status.{bad_message_not_available, bad_no_subscription, bad_too_many_publish_requests}
use Rattle.ua_structures.specs.declared.body.BodyFault.{BodyFault}
use Rattle.ua_structures.specs.declared.header.ResponseHeader.{ResponseHeader}
use Rattle.ua_structures.specs.Body.{body_at}
use Rattle.ua_values.specs.Reading.{Fault, input}
use Rattle.ua_variants.specs.declared.variant.Stamped.{Stamped}
use Rattle.ua_variants.specs.declared.variant.Variant.{Variant}
use Rattle.ua_chunks.specs.declared.greeting.Greeting.{Greeting}
use Rattle.ua_chunks.specs.Bodies.{greeting_at, value_of, whole_at}
use Rattle.ua_channel.specs.declared.heard.Heard.{Heard}
use Rattle.ua_channel.specs.declared.heard.Heard.TheVariants as said_of
use Rattle.ua_session_msgs.specs.declared.attribute.ReadResponse.{ReadResponse}
use Rattle.ua_session_msgs.specs.declared.channel.OpenSecureChannelResponse.{OpenSecureChannelResponse}
use Rattle.ua_session_msgs.specs.declared.reply.SessionReply.{SessionReply}
use Rattle.ua_session_msgs.specs.declared.reply.SessionReply.TheVariants as session_reply
use Rattle.ua_sub_msgs.specs.declared.notification.MonitoredItemNotification.{MonitoredItemNotification}
use Rattle.ua_sub_msgs.specs.declared.notification.NotificationMessage.{NotificationMessage}
use Rattle.ua_sub_msgs.specs.declared.publish.PublishResponse.{PublishResponse}
use Rattle.ua_sub_msgs.specs.declared.results.ResultsResponse.{ResultsResponse}
use Rattle.ua_sub_msgs.specs.declared.reply.SubReply.{SubReply}
use Rattle.ua_sub_msgs.specs.declared.reply.SubReply.TheVariants as sub_reply
use Rattle.ua_services.specs.declared.reply.Reply.{Reply}
use Rattle.ua_services.specs.declared.reply.Reply.TheVariants as reply
use Rattle.ua_services.specs.declared.request.Request.{Request}
use Rattle.ua_services.specs.Families.{replies}
use Rattle.link_rules.specs.declared.content.Content.{Content}
use Rattle.link_rules.specs.declared.content.Content.TheVariants as content
use Rattle.link_rules.specs.declared.notice.Notice.TheVariants as notice
use Rattle.link_rules.specs.declared.phase.Phase.{Phase}
use Rattle.link_rules.specs.declared.phase.Phase.TheVariants as phase
use Rattle.link_rules.specs.declared.phase.Publishes.{Publishes}
use Rattle.link_rules.specs.declared.phase.ReadyState.{ReadyState}
use Rattle.link_rules.specs.declared.phase.Setting.{Setting}
use Rattle.link_rules.specs.declared.remembered.Monitored.{Monitored}
use Rattle.link_rules.specs.declared.remembered.Remembered.{Remembered}
use Rattle.link_rules.specs.State.{LinkState, forgotten, is_idle, is_ready, ready_in, with_phase, with_ready}
use Rattle.link_rules.specs.Said.{LinkDid, Asks, Limited, Opens, and_then, nothing, says, tells}
use Rattle.link_rules.specs.Closing.{broken}
use Rattle.link_rules.specs.Asking.{asked, asked_opening, is_answer, is_fault, is_good, is_reply_to, next_request, numbered}
use Rattle.link_rules.specs.Requests.{activation_request, channel_request, items_request, mode_request, probe_request, publish_request, republish_request, session_request_of, subscription_request, transfer_request}
use Rattle.link_rules.specs.Messages.{acknowledged, all_taken, awaits, content_of, data_taken, kept_alive, newest}
use Rattle.link_rules.specs.Numbers.{is_jump, is_next, wanted_of}
use Rattle.link_rules.specs.Publishing.{enters_ready, fills, has_room, mode_due, new_ready, published, publishes, publishes_in, sets, sets_if, sets_in, sets_mode, subscribes, tells_sent, with_publish, with_setting}
use Rattle.link_rules.specs.Ready as ready_rules
use Rattle.link_rules.specs.Subscribing as sub_rules
use Rattle.link_rules.specs.Starting as start_rules
use Rattle.link_rules.specs.Opening as open_rules
use Rattle.link_rules.specs.Step as step_rules

-- it is on its way, or waits
abbrev pub Awake : LinkState → Type 0
Awake l = (is_idle l && (l.wait == 0)) ≡ false

-- ---- rules in general

if_awake : (b : Bool) (one other : LinkDid) → Awake one.link → Awake other.link → Awake (if b then one else other).link
if_awake true one other first second = first
if_awake false one other first second = second

broken_awake : (l : LinkState) → Awake (broken l).link
unfolding broken
broken_awake l = refl

or_broken : (b : Bool) (did : LinkDid) (l : LinkState) → Awake did.link → Awake (if b then did else broken l).link
or_broken b did l awake = if_awake b did (broken l) awake (broken_awake l)

asked_awake : (r : Request) (l : LinkState) → Awake l → Awake (asked r l).link
unfolding asked
asked_awake r l awake = or_broken _ (numbered (Asks (next_request l) r) l) l awake

opening_awake : (r : Request) (l : LinkState) → Awake l → Awake (asked_opening r l).link
unfolding asked_opening
opening_awake r l awake = or_broken _ (numbered (Opens (next_request l) r) l) l awake

-- ---- what it does as soon as it can

published_awake : (ready : ReadyState) (remembered : Remembered) (l : LinkState) → Awake (published ready remembered l).link
unfolding published
published_awake ready remembered l = asked_awake (publish_request remembered.id l) (with_publish ready l) refl

publishes_by : (o : Option ReadyState) (r : Option Remembered) (l : LinkState) → Awake l → Awake (publishes_in o r l).link
publishes_by None r l awake = awake
publishes_by (Some ready) None l awake = awake
publishes_by (Some ready) (Some remembered) l awake =
    if_awake (has_room ready.publishes) (published ready remembered l) (nothing l) (published_awake ready remembered l) awake

publishes_awake : (l : LinkState) → Awake l → Awake (publishes l).link
unfolding publishes
publishes_awake l awake = publishes_by (ready_in l.phase) l.remembered l awake

fills_awake : (l : LinkState) → Awake l → Awake (fills l).link
unfolding fills
fills_awake l awake = publishes_awake (publishes l).link (publishes_awake l awake)

sent_awake : (mode : Mode) (l : LinkState) → Awake l → Awake (tells_sent mode l).link
unfolding tells_sent
sent_awake mode l awake = if_awake (is_ready l) (tells (notice.Sent mode ∷ []) l) (nothing l) awake awake

sets_awake : (mode : Mode) (ready : ReadyState) (remembered : Remembered) (l : LinkState) → Awake (sets mode ready remembered l).link
unfolding sets
sets_awake mode ready remembered l =
    sent_awake mode (asked (mode_request remembered.id mode l) (with_setting mode ready l)).link
    (asked_awake (mode_request remembered.id mode l) (with_setting mode ready l) refl)

sets_by : (o : Option Mode) (ready : ReadyState) (r : Option Remembered) (l : LinkState) → Awake l → Awake (sets_if o ready r l).link
sets_by None ready r l awake = awake
sets_by (Some mode) ready None l awake = awake
sets_by (Some mode) ready (Some remembered) l awake = sets_awake mode ready remembered l

sets_within : (o : Option ReadyState) (l : LinkState) → Awake l → Awake (sets_in o l).link
sets_within None l awake = awake
sets_within (Some ready) l awake = sets_by (mode_due ready) ready l.remembered l awake

mode_awake : (l : LinkState) → Awake l → Awake (sets_mode l).link
unfolding sets_mode
mode_awake l awake = sets_within (ready_in l.phase) l awake

enters_awake : (confirmed : Option Mode) (l : LinkState) → Awake (enters_ready confirmed l).link
unfolding enters_ready
enters_awake confirmed l = fills_awake (with_phase (phase.Ready (new_ready confirmed)) l) refl

subscribes_awake : (l : LinkState) → Awake (subscribes l).link
unfolding subscribes
subscribes_awake l = asked_awake (subscription_request l) (with_phase phase.Subscribing (forgotten l)) refl

-- ---- messages

alive_awake : (number : ℕ) (remembered : Remembered) (l : LinkState) → Awake l → Awake (kept_alive number remembered l).link
unfolding kept_alive
alive_awake number remembered l awake =
    if_awake (is_jump remembered.next number) (tells (notice.Jump ∷ []) (awaits number remembered l)) (nothing l) awake awake

data_awake : (number : ℕ) (values : List MonitoredItemNotification) (remembered : Remembered) (l : LinkState) → Awake l
    → Awake (data_taken number values remembered l).link
unfolding data_taken
data_awake number values remembered l awake =
    if_awake (is_next remembered.next number) (tells (all_taken l.monitored values) (newest number remembered l))
    (if is_jump remembered.next number then tells (notice.Jump ∷ all_taken l.monitored values) (newest number remembered l)
    else nothing (acknowledged number l))
    awake
    (if_awake (is_jump remembered.next number)
    (tells (notice.Jump ∷ all_taken l.monitored values) (newest number remembered l)) (nothing (acknowledged number l)) awake awake)

-- ---- in Ready

restarts_awake : (l : LinkState) → Awake (ready_rules.restarts l).link
unfolding ready_rules.restarts
restarts_awake l = subscribes_awake l

brings_awake : (c : Content) (number : ℕ) (remembered : Remembered) (l : LinkState) → Awake l → Awake (ready_rules.brings c number remembered l).link
unfolding ready_rules.brings
brings_awake content.Alive number remembered l awake =
    fills_awake (kept_alive number remembered l).link (alive_awake number remembered l awake)
brings_awake content.Ended number remembered l awake = restarts_awake l
brings_awake (content.Values values) number remembered l awake =
    fills_awake (data_taken number values remembered l).link (data_awake number values remembered l awake)
brings_awake content.Unread number remembered l awake = broken_awake l

publish_by : (o : Option Publishes) (r : Option Remembered) (p : PublishResponse) (ready : ReadyState) (l : LinkState)
    → Awake (ready_rules.publish_replied_by o r p ready l).link
unfolding ready_rules.publish_replied_by
publish_by (Some left) (Some remembered) p ready l =
    or_broken (is_good p.response_header.service_result && (p.subscription_id == remembered.id))
    (ready_rules.message_brings p.notification_message remembered (ready_rules.heard_of_it left ready l)) l
    (brings_awake (content_of p.notification_message.notification_data) p.notification_message.sequence_number remembered
    (ready_rules.heard_of_it left ready l) refl)
publish_by (Some left) None p ready l = broken_awake l
publish_by None (Some remembered) p ready l = broken_awake l
publish_by None None p ready l = broken_awake l

publish_awake : (p : PublishResponse) (ready : ReadyState) (l : LinkState) → Awake (ready_rules.publish_replied p ready l).link
unfolding ready_rules.publish_replied
publish_awake p ready l = publish_by _ l.remembered p ready l

refused_by : (o : Option Publishes) (code : ℕ) (ready : ReadyState) (l : LinkState) → Awake (ready_rules.publish_refused_by o code ready l).link
refused_by (Some left) code ready l =
    if_awake (code == bad_too_many_publish_requests) (nothing (with_ready (record ready { publishes = left }) l))
    (if code == bad_no_subscription then ready_rules.restarts l else broken l) refl
    (or_broken (code == bad_no_subscription) (ready_rules.restarts l) l (restarts_awake l))
refused_by None code ready l = broken_awake l

refused_awake : (h : ResponseHeader) (ready : ReadyState) (l : LinkState) → Awake (ready_rules.publish_refused h ready l).link
unfolding ready_rules.publish_refused
refused_awake h ready l = refused_by _ h.service_result ready l

low_awake : (level : ℕ) (l : LinkState) → Awake l → Awake (ready_rules.leaves_low level l).link
unfolding ready_rules.leaves_low
low_awake level l awake = if_awake (ready_rules.is_left level l) (broken l) (nothing l) (broken_awake l) awake

level_awake : (o : Option ℕ) (l : LinkState) → Awake l → Awake (ready_rules.level_told o l).link
unfolding ready_rules.level_told
level_awake None l awake = broken_awake l
level_awake (Some level) l awake = low_awake level (ready_rules.no_reading l) awake

read_awake : (r : ReadResponse) (l : LinkState) → Awake l → Awake (ready_rules.level_replied r l).link
unfolding ready_rules.level_replied
read_awake r l awake = or_broken _ (ready_rules.level_told (ready_rules.one_level r.results) l) l (level_awake (ready_rules.one_level r.results) l awake)

confirms_awake : (setting : Setting) (ready : ReadyState) (l : LinkState) → Awake (ready_rules.confirms setting ready l).link
unfolding ready_rules.confirms
confirms_awake setting ready l = mode_awake (with_ready (record ready { setting = None; confirmed = Some setting.mode }) l) refl

mode_by : (o : Option Setting) (h : ResponseHeader) (ready : ReadyState) (l : LinkState) → Awake (ready_rules.mode_replied_by o h ready l).link
mode_by None h ready l = broken_awake l
mode_by (Some setting) h ready l =
    or_broken (is_reply_to setting.asked.handle h) (ready_rules.confirms setting ready l) l (confirms_awake setting ready l)

mode_replied_awake : (r : ResultsResponse) (ready : ReadyState) (l : LinkState) → Awake (ready_rules.mode_replied r ready l).link
unfolding ready_rules.mode_replied
mode_replied_awake r ready l = mode_by ready.setting r.response_header ready l

session_ready : (r : SessionReply) (ready : ReadyState) (l : LinkState) → Awake l → Awake (ready_rules.in_ready (reply.Session r) ready l).link
unfolding ready_rules.in_ready
session_ready (session_reply.ServiceFault h) ready l awake = refused_awake h ready l
session_ready (session_reply.Read r) ready l awake = read_awake r l awake
session_ready other ready l awake = broken_awake l

sub_ready : (r : SubReply) (ready : ReadyState) (l : LinkState) → Awake (ready_rules.in_ready (reply.Subscription r) ready l).link
unfolding ready_rules.in_ready
sub_ready (sub_reply.Publish r) ready l = publish_awake r ready l
sub_ready (sub_reply.SetMonitoringMode r) ready l = mode_replied_awake r ready l
sub_ready other ready l = broken_awake l

ready_awake : (r : Reply) (ready : ReadyState) (l : LinkState) → Awake l → Awake (ready_rules.in_ready r ready l).link
ready_awake (reply.Session r) ready l awake = session_ready r ready l awake
ready_awake (reply.Subscription r) ready l awake = sub_ready r ready l

-- ---- its subscription

begins_by : (o : Option Remembered) (l : LinkState) → Awake (sub_rules.begins_by o l).link
begins_by None l = subscribes_awake l
begins_by (Some remembered) l = asked_awake (transfer_request remembered.id l) (with_phase phase.Transferring l) refl

begins_awake : (l : LinkState) → Awake (sub_rules.begins l).link
unfolding sub_rules.begins
begins_awake l = begins_by l.remembered l

again_awake : (wanted : List ℕ) (remembered : Remembered) (l : LinkState) → Awake (sub_rules.asks_again wanted remembered l).link
unfolding sub_rules.asks_again
again_awake [] remembered l = enters_awake None l
again_awake (number ∷ wanted) remembered l =
    asked_awake (republish_request remembered.id number l) (with_phase (phase.Republishing wanted) l) refl

transfers_by : (o : Option (List ℕ)) (r : Option Remembered) (l : LinkState) → Awake (sub_rules.transfers_by o r l).link
transfers_by (Some available) (Some remembered) l = again_awake (wanted_of remembered.next available) remembered l
transfers_by (Some available) None l = subscribes_awake l
transfers_by None (Some remembered) l = subscribes_awake l
transfers_by None None l = subscribes_awake l

transferred_awake : (o : Option (List ℕ)) (h : ResponseHeader) (l : LinkState) → Awake (sub_rules.transferred o h l).link
unfolding sub_rules.transferred
transferred_awake o h l =
    or_broken (h.request_handle == l.conversation.last) (sub_rules.transfers_by o l.remembered l) l (transfers_by o l.remembered l)

session_transferring : (r : SessionReply) (l : LinkState) → Awake (sub_rules.in_transferring (reply.Session r) l).link
unfolding sub_rules.in_transferring
session_transferring (session_reply.ServiceFault h) l = transferred_awake None h l
session_transferring other l = broken_awake l

sub_transferring : (r : SubReply) (l : LinkState) → Awake (sub_rules.in_transferring (reply.Subscription r) l).link
unfolding sub_rules.in_transferring
sub_transferring (sub_reply.TransferSubscriptions r) l = transferred_awake (sub_rules.available_of r) r.response_header l
sub_transferring other l = broken_awake l

transferring_awake : (r : Reply) (l : LinkState) → Awake (sub_rules.in_transferring r l).link
transferring_awake (reply.Session r) l = session_transferring r l
transferring_awake (reply.Subscription r) l = sub_transferring r l

goes_by : (o : Option (List ℕ)) (r : Option Remembered) (l : LinkState) → Awake l → Awake (sub_rules.goes_on_by o r l).link
goes_by (Some wanted) (Some remembered) l awake = again_awake wanted remembered l
goes_by (Some wanted) None l awake = awake
goes_by None (Some remembered) l awake = awake
goes_by None None l awake = awake

goes_awake : (l : LinkState) → Awake l → Awake (sub_rules.goes_on l).link
unfolding sub_rules.goes_on
goes_awake l awake = goes_by (sub_rules.wanted_in l.phase) l.remembered l awake

brings_again_awake : (c : Content) (number : ℕ) (remembered : Remembered) (l : LinkState) → Awake l
    → Awake (sub_rules.brings_again c number remembered l).link
unfolding sub_rules.brings_again
brings_again_awake content.Alive number remembered l awake = alive_awake number remembered l awake
brings_again_awake content.Ended number remembered l awake = awake
brings_again_awake (content.Values values) number remembered l awake = data_awake number values remembered l awake
brings_again_awake content.Unread number remembered l awake = broken_awake l

message_awake : (message : NotificationMessage) (o : Option Remembered) (l : LinkState) → Awake l → Awake (sub_rules.message_again message o l).link
unfolding sub_rules.message_again
message_awake message None l awake = broken_awake l
message_awake message (Some remembered) l awake =
    goes_awake (sub_rules.brings_again (content_of message.notification_data) message.sequence_number remembered l).link
    (brings_again_awake (content_of message.notification_data) message.sequence_number remembered l awake)

session_republishing : (r : SessionReply) (l : LinkState) → Awake l → Awake (sub_rules.in_republishing (reply.Session r) l).link
unfolding sub_rules.in_republishing
session_republishing (session_reply.ServiceFault h) l awake =
    or_broken (is_fault l.conversation.last bad_message_not_available h) (sub_rules.goes_on l) l (goes_awake l awake)
session_republishing other l awake = broken_awake l

sub_republishing : (r : SubReply) (l : LinkState) → Awake l → Awake (sub_rules.in_republishing (reply.Subscription r) l).link
unfolding sub_rules.in_republishing
sub_republishing (sub_reply.Republish r) l awake =
    or_broken (is_answer r.response_header l) (sub_rules.message_again r.notification_message l.remembered l) l
    (message_awake r.notification_message l.remembered l awake)
sub_republishing other l awake = broken_awake l

republishing_awake : (r : Reply) (l : LinkState) → Awake l → Awake (sub_rules.in_republishing r l).link
republishing_awake (reply.Session r) l awake = session_republishing r l awake
republishing_awake (reply.Subscription r) l awake = sub_republishing r l awake

adds_awake : (id : ℕ) (l : LinkState) → Awake (sub_rules.adds_items id l).link
unfolding sub_rules.adds_items
adds_awake id l = asked_awake (items_request id l) (with_phase phase.Adding l) refl

subscribed_awake : (id : ℕ) (l : LinkState) → Awake (sub_rules.subscribed id l).link
unfolding sub_rules.subscribed
subscribed_awake id l = adds_awake id (sub_rules.made id l)

sub_subscribing : (r : SubReply) (l : LinkState) → Awake (sub_rules.in_subscribing (reply.Subscription r) l).link
unfolding sub_rules.in_subscribing
sub_subscribing (sub_reply.CreateSubscription r) l =
    or_broken (is_answer r.response_header l) (sub_rules.subscribed r.subscription_id l) l (subscribed_awake r.subscription_id l)
sub_subscribing other l = broken_awake l

subscribing_awake : (r : Reply) (l : LinkState) → Awake (sub_rules.in_subscribing r l).link
unfolding sub_rules.in_subscribing
subscribing_awake (reply.Session r) l = broken_awake l
subscribing_awake (reply.Subscription r) l = sub_subscribing r l

added_awake : (items : List Monitored) (l : LinkState) → Awake (sub_rules.added items l).link
unfolding sub_rules.added
added_awake [] l = broken_awake l
added_awake (first ∷ more) l = enters_awake (Some l.config.rest) (record l { monitored = first ∷ more })

sub_adding : (r : SubReply) (l : LinkState) → Awake (sub_rules.in_adding (reply.Subscription r) l).link
unfolding sub_rules.in_adding
sub_adding (sub_reply.CreateMonitoredItems r) l =
    or_broken (is_answer r.response_header l) (sub_rules.added (sub_rules.monitored_of l.config.items r.results) l) l
    (added_awake (sub_rules.monitored_of l.config.items r.results) l)
sub_adding other l = broken_awake l

adding_awake : (r : Reply) (l : LinkState) → Awake (sub_rules.in_adding r l).link
unfolding sub_rules.in_adding
adding_awake (reply.Session r) l = broken_awake l
adding_awake (reply.Subscription r) l = sub_adding r l

-- ---- its session

activates_awake : (l : LinkState) → Awake (start_rules.activates l).link
unfolding start_rules.activates
activates_awake l = asked_awake (activation_request l) (with_phase phase.Activating l) refl

session_creating : (r : SessionReply) (l : LinkState) → Awake (start_rules.in_creating (reply.Session r) l).link
unfolding start_rules.in_creating
session_creating (session_reply.CreateSession r) l =
    or_broken (is_answer r.response_header l) (start_rules.activates (record l { session = r.authentication_token })) l
    (activates_awake (record l { session = r.authentication_token }))
session_creating other l = broken_awake l

creating_awake : (r : Reply) (l : LinkState) → Awake (start_rules.in_creating r l).link
unfolding start_rules.in_creating
creating_awake (reply.Session r) l = session_creating r l
creating_awake (reply.Subscription r) l = broken_awake l

probes_awake : (l : LinkState) → Awake (start_rules.probes l).link
unfolding start_rules.probes
probes_awake l = asked_awake (probe_request l) (with_phase phase.Probing (start_rules.has_read l)) refl

session_activating : (r : SessionReply) (l : LinkState) → Awake (start_rules.in_activating (reply.Session r) l).link
unfolding start_rules.in_activating
session_activating (session_reply.ActivateSession r) l =
    or_broken (is_answer r.response_header l) (start_rules.probes l) l (probes_awake l)
session_activating other l = broken_awake l

activating_awake : (r : Reply) (l : LinkState) → Awake (start_rules.in_activating r l).link
unfolding start_rules.in_activating
activating_awake (reply.Session r) l = session_activating r l
activating_awake (reply.Subscription r) l = broken_awake l

unsupported_awake : (l : LinkState) → Awake (start_rules.unsupported l).link
unfolding start_rules.unsupported
unsupported_awake l = broken_awake (record l { unsupported = true })

judges_awake : (level : ℕ) (support : ℤ) (l : LinkState) → Awake (start_rules.judges level support l).link
unfolding start_rules.judges
judges_awake level support l =
    if_awake (start_rules.is_unused support) (start_rules.unsupported l)
    (if ready_rules.is_left level l then broken l else sub_rules.begins l) (unsupported_awake l)
    (if_awake (ready_rules.is_left level l) (broken l) (sub_rules.begins l) (broken_awake l) (begins_awake l))

probed_by : (level : Option ℕ) (support : Option ℤ) (l : LinkState) → Awake (start_rules.probed_by level support l).link
unfolding start_rules.probed_by
probed_by (Some level) (Some support) l = judges_awake level support l
probed_by (Some level) None l = broken_awake l
probed_by None (Some support) l = broken_awake l
probed_by None None l = broken_awake l

probed_awake : (values : List (Stamped Variant)) (l : LinkState) → Awake (start_rules.probed values l).link
unfolding start_rules.probed
probed_awake [] l = broken_awake l
probed_awake (level ∷ []) l = broken_awake l
probed_awake (level ∷ support ∷ []) l = probed_by (ready_rules.level_of level) (start_rules.support_of support) l
probed_awake (level ∷ support ∷ another ∷ more) l = broken_awake l

session_probing : (r : SessionReply) (l : LinkState) → Awake (start_rules.in_probing (reply.Session r) l).link
unfolding start_rules.in_probing
session_probing (session_reply.Read r) l =
    or_broken (is_answer r.response_header l) (start_rules.probed r.results l) l (probed_awake r.results l)
session_probing other l = broken_awake l

probing_awake : (r : Reply) (l : LinkState) → Awake (start_rules.in_probing r l).link
unfolding start_rules.in_probing
probing_awake (reply.Session r) l = session_probing r l
probing_awake (reply.Subscription r) l = broken_awake l

-- ---- its channel

opens_awake : (l : LinkState) → Awake (open_rules.opens_channel l).link
unfolding open_rules.opens_channel
opens_awake l = opening_awake (channel_request (pos 0) l) (with_phase phase.Opening l) refl

acknowledged_awake : (g : Greeting) (l : LinkState) → Awake (open_rules.acknowledged_by g l).link
unfolding open_rules.acknowledged_by
acknowledged_awake g l =
    or_broken (open_rules.is_enough g)
    (and_then open_rules.opens_channel (says (Limited (open_rules.limits_of g)) (open_rules.with_limit (open_rules.limit_named g) l))) l
    (opens_awake (open_rules.with_limit (open_rules.limit_named g) l))

greeted_by : (r : Result Greeting Fault) (l : LinkState) → Awake (open_rules.greeted_by r l).link
unfolding open_rules.greeted_by
greeted_by (Ok g) l = acknowledged_awake g l
greeted_by (Err fault) l = broken_awake l

greeted_in : (p : Phase) (body : List ℕ) (l : LinkState) → Awake (open_rules.greeted_in p body l).link
greeted_in phase.Hello body l = greeted_by (value_of (whole_at greeting_at (input 0 body))) l
greeted_in other body l = broken_awake l

greeted_awake : (body : List ℕ) (l : LinkState) → Awake (open_rules.greeted body l).link
unfolding open_rules.greeted
greeted_awake body l = greeted_in l.phase body l

creates_awake : (l : LinkState) → Awake (open_rules.creates_session l).link
unfolding open_rules.creates_session
creates_awake l = asked_awake (session_request_of l) (with_phase phase.Creating l) refl

renews_awake : (t : _) (l : LinkState) → Awake l → Awake (open_rules.renews t l).link
unfolding open_rules.renews
renews_awake t l awake = awake

channel_by : (p : Phase) (r : OpenSecureChannelResponse) (l : LinkState) → Awake l → Awake (open_rules.channel_replied_in p r l).link
unfolding open_rules.channel_replied_in
channel_by phase.Opening r l awake =
    or_broken (is_answer r.response_header l) (and_then open_rules.creates_session (open_rules.renews r.security_token l)) l
    (creates_awake (open_rules.renews r.security_token l).link)
channel_by other r l awake =
    or_broken (ready_rules.is_answer_to l.conversation.renewal r.response_header)
    (open_rules.renews r.security_token (open_rules.heard_once l)) l
    (renews_awake r.security_token (open_rules.heard_once l) awake)

session_opening : (r : SessionReply) (l : LinkState) → Awake l → Awake (open_rules.in_opening (reply.Session r) l).link
unfolding open_rules.in_opening
session_opening (session_reply.OpenSecureChannel r) l awake = channel_by l.phase r l awake
session_opening other l awake = broken_awake l

in_opening_awake : (r : Reply) (l : LinkState) → Awake l → Awake (open_rules.in_opening r l).link
unfolding open_rules.in_opening
in_opening_awake (reply.Session r) l awake = session_opening r l awake
in_opening_awake (reply.Subscription r) l awake = broken_awake l

-- ---- what is heard

replied_in : (p : Phase) (r : Reply) (l : LinkState) → Awake l → Awake (step_rules.replied_in p r l).link
replied_in phase.Idle r l awake = broken_awake l
replied_in (phase.Dialing taken) r l awake = broken_awake l
replied_in phase.Hello r l awake = broken_awake l
replied_in phase.Opening r l awake = broken_awake l
replied_in phase.Creating r l awake = creating_awake r l
replied_in phase.Activating r l awake = activating_awake r l
replied_in phase.Probing r l awake = probing_awake r l
replied_in phase.Transferring r l awake = transferring_awake r l
replied_in (phase.Republishing wanted) r l awake = republishing_awake r l awake
replied_in phase.Subscribing r l awake = subscribing_awake r l
replied_in phase.Adding r l awake = adding_awake r l
replied_in (phase.Ready ready) r l awake = ready_awake r ready l awake

replied_by : (r : Result Reply BodyFault) (l : LinkState) → Awake l → Awake (step_rules.replied_by r l).link
replied_by (Ok r) l awake = replied_in l.phase r l awake
replied_by (Err fault) l awake = broken_awake l

replied_awake : (body : List ℕ) (l : LinkState) → Awake l → Awake (step_rules.replied body l).link
unfolding step_rules.replied
replied_awake body l awake = replied_by (body_at replies body) l awake

opening_by : (r : Result Reply BodyFault) (l : LinkState) → Awake l → Awake (step_rules.opening_by r l).link
opening_by (Ok r) l awake = in_opening_awake r l awake
opening_by (Err fault) l awake = broken_awake l

opening_replied_awake : (follows : Bool) (body : List ℕ) (l : LinkState) → Awake l → Awake (step_rules.opening_replied follows body l).link
unfolding step_rules.opening_replied
opening_replied_awake follows body l awake =
    or_broken follows (step_rules.opening_by (body_at replies body) l) l (opening_by (body_at replies body) l awake)

pub hears_awake : (h : Heard) (l : LinkState) → Awake l → Awake (step_rules.hears h l).link
hears_awake (said_of.Greeting body) l awake = greeted_awake body l
hears_awake (said_of.Opening channel follows request body) l awake = opening_replied_awake follows body l awake
hears_awake (said_of.Message request body) l awake = replied_awake body l awake
hears_awake said_of.Close l awake = broken_awake l
hears_awake (said_of.Fault code) l awake = broken_awake l

-- one that is ready wants a mode
pub wants_awake : (ready : ReadyState) (mode : Mode) (l : LinkState) → Awake (step_rules.wants_in (Some ready) mode l).link
wants_awake ready mode l = mode_awake (with_ready (record ready { wanted = Some mode }) l) refl
