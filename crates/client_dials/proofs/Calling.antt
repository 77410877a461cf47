-- A link that doesn't dial goes on so until it is told to dial.
use Rattle.std.proofs.Common.{◌≡◌, ℕ, ℤ, ◌==◌, ◌&&◌, List, [], ◌∷◌, length, min, nat_le, Bool, true, false, Option, Some, None, Result, Ok, Err, if◌then◌else◌, refl, ap, ◌∙◌}
use Rattle.std.specs.Prelude.{pos}
use Rattle.ua_base.specs.Status.{bad_message_not_available, bad_no_subscription, bad_too_many_publish_requests}
use Rattle.ua_base.specs.declared.modes.Mode.{Mode}
use Rattle.ua_values.specs.Reading.{Fault}
use Rattle.ua_variants.specs.declared.variant.Stamped.{Stamped}
use Rattle.ua_variants.specs.declared.variant.Variant.{Variant}
use Rattle.ua_structures.specs.declared.body.BodyFault.{BodyFault}
use Rattle.ua_structures.specs.declared.header.ResponseHeader.{ResponseHeader}
use Rattle.ua_structures.specs.Body.{body_at}
use Rattle.ua_chunks.specs.declared.greeting.Greeting.{Greeting}
use Rattle.ua_channel.specs.declared.heard.Heard.{Heard}
use Rattle.ua_channel.specs.declared.heard.Heard.TheVariants as heard_of
use Rattle.ua_channel.specs.State.{is_deaf}
use Rattle.ua_session_msgs.specs.declared.attribute.ReadResponse.{ReadResponse}
use Rattle.ua_session_msgs.specs.declared.channel.OpenSecureChannelResponse.{OpenSecureChannelResponse}
use Rattle.ua_session_msgs.specs.declared.reply.SessionReply.TheVariants as session_reply
use Rattle.ua_sub_msgs.specs.declared.notification.MonitoredItemNotification.{MonitoredItemNotification}
use Rattle.ua_sub_msgs.specs.declared.notification.NotificationMessage.{NotificationMessage}
use Rattle.ua_sub_msgs.specs.declared.publish.PublishResponse.{PublishResponse}
use Rattle.ua_sub_msgs.specs.declared.reply.SubReply.TheVariants as sub_reply
use Rattle.ua_services.specs.declared.reply.Reply.{Reply}
use Rattle.ua_services.specs.declared.reply.Reply.TheVariants as reply
use Rattle.ua_services.specs.declared.request.Request.{Request}
use Rattle.ua_services.specs.Families.{replies, written_request}
use Rattle.link_rules.specs.declared.content.Content.{Content}
use Rattle.link_rules.specs.declared.content.Content.TheVariants as content
use Rattle.link_rules.specs.declared.notice.Notice.TheVariants as notice
use Rattle.link_rules.specs.declared.phase.Phase.{Phase}
use Rattle.link_rules.specs.declared.phase.Phase.TheVariants as phase
use Rattle.link_rules.specs.declared.phase.Publishes.{Publishes}
use Rattle.link_rules.specs.declared.phase.ReadyState.{ReadyState}
use Rattle.link_rules.specs.declared.phase.Setting.{Setting}
use Rattle.link_rules.specs.declared.remembered.Monitored.{Monitored}
use Rattle.link_rules.specs.declared.remembered.Remembered.{Remembered}
use Rattle.link_rules.specs.State.{LinkState, forgotten, is_ready, ready_in, with_phase, with_ready}
use Rattle.link_rules.specs.Said.{LinkDid, Asks, Greeted, Limited, Opens, and_then, nothing, says, tells}
use Rattle.link_rules.specs.Closing.{broken, dropped}
use Rattle.link_rules.specs.Asking.{asked, asked_opening, is_answer, is_fault, is_good, is_reply_to, next_request, numbered}
use Rattle.link_rules.specs.Requests.{channel_request, hello, level_request}
use Rattle.link_rules.specs.Messages.{acknowledged, all_taken, awaits, content_of, data_taken, kept_alive, newest}
use Rattle.link_rules.specs.Numbers.{is_jump, is_next, wanted_of}
use Rattle.link_rules.specs.Publishing as rules
use Rattle.link_rules.specs.Ready as ready_rules
use Rattle.link_rules.specs.Subscribing as sub_rules
use Rattle.link_rules.specs.Starting as start_rules
use Rattle.link_rules.specs.Opening as open_rules
use Rattle.link_rules.specs.Time as time_rules
use Rattle.link_rules.specs.Step as step_rules
use Rattle.link_rules.specs.Step.{Happening, after}
use Rattle.client_links.specs.Awaited.{IsDialling}

-- how many connections it waits for
abbrev pub calls : Phase → ℕ
calls (phase.Dialing taken) = 1
calls other = 0

abbrev pub IsCalm : LinkState → Type 0
IsCalm l = calls l.phase ≡ 0

calm_if : (b : Bool) (one other : LinkDid) → IsCalm one.link → IsCalm other.link → IsCalm (if b then one else other).link
calm_if true one other h rest = h
calm_if false one other h rest = rest

broken_calm : (l : LinkState) → IsCalm (broken l).link
unfolding broken
broken_calm l = refl

dropped_calm : (l : LinkState) → IsCalm (dropped l).link
unfolding dropped
dropped_calm l = refl

asked_calm : (r : Request) (l : LinkState) → IsCalm l → IsCalm (asked r l).link
unfolding asked
asked_calm r l h =
    calm_if (nat_le (length (written_request r)) l.conversation.limit) (numbered (Asks (next_request l) r) l) (broken l) h (broken_calm l)

opening_calm : (r : Request) (l : LinkState) → IsCalm l → IsCalm (asked_opening r l).link
unfolding asked_opening
opening_calm r l h =
    calm_if (nat_le (length (written_request r)) (min l.conversation.limit 4096)) (numbered (Opens (next_request l) r) l) (broken l) h
    (broken_calm l)

-- ---- what is done as soon as it can

publishes_by : (o : Option ReadyState) (r : Option Remembered) (l : LinkState) → IsCalm l → IsCalm (rules.publishes_in o r l).link
unfolding rules.published
publishes_by None r l h = h
publishes_by (Some ready) None l h = h
publishes_by (Some ready) (Some remembered) l h =
    calm_if (rules.has_room ready.publishes) (rules.published ready remembered l) (nothing l)
    (asked_calm _ (rules.with_publish ready l) refl) h

publishes_calm : (l : LinkState) → IsCalm l → IsCalm (rules.publishes l).link
unfolding rules.publishes
publishes_calm l h = publishes_by (ready_in l.phase) l.remembered l h

fills_calm : (l : LinkState) → IsCalm l → IsCalm (rules.fills l).link
unfolding rules.fills
fills_calm l h = publishes_calm (rules.publishes l).link (publishes_calm l h)

sent_calm : (mode : Mode) (l : LinkState) → IsCalm l → IsCalm (rules.tells_sent mode l).link
unfolding rules.tells_sent
sent_calm mode l h = calm_if (is_ready l) (tells (notice.Sent mode ∷ []) l) (nothing l) h h

sets_calm : (mode : Mode) (ready : ReadyState) (remembered : Remembered) (l : LinkState) → IsCalm (rules.sets mode ready remembered l).link
unfolding rules.sets
sets_calm mode ready remembered l = sent_calm mode _ (asked_calm _ (rules.with_setting mode ready l) refl)

sets_if_calm : (mode : Option Mode) (ready : ReadyState) (r : Option Remembered) (l : LinkState) → IsCalm l → IsCalm (rules.sets_if mode ready r l).link
sets_if_calm None ready r l h = h
sets_if_calm (Some mode) ready None l h = h
sets_if_calm (Some mode) ready (Some remembered) l h = sets_calm mode ready remembered l

sets_by : (o : Option ReadyState) (l : LinkState) → IsCalm l → IsCalm (rules.sets_in o l).link
sets_by None l h = h
sets_by (Some ready) l h = sets_if_calm (rules.mode_due ready) ready l.remembered l h

sets_mode_calm : (l : LinkState) → IsCalm l → IsCalm (rules.sets_mode l).link
unfolding rules.sets_mode
sets_mode_calm l h = sets_by (ready_in l.phase) l h

enters_calm : (confirmed : Option Mode) (l : LinkState) → IsCalm (rules.enters_ready confirmed l).link
unfolding rules.enters_ready
enters_calm confirmed l = fills_calm (with_phase (phase.Ready (rules.new_ready confirmed)) l) refl

subscribes_calm : (l : LinkState) → IsCalm (rules.subscribes l).link
unfolding rules.subscribes
subscribes_calm l = asked_calm _ (with_phase phase.Subscribing (forgotten l)) refl

-- ---- messages of the subscription

alive_phase : (number : ℕ) (r : Remembered) (l : LinkState) → (kept_alive number r l).link.phase ≡ l.phase
unfolding kept_alive
alive_phase number r l = by_test (is_jump r.next number)
  where
    by_test : (b : Bool) → (if b then tells (notice.Jump ∷ []) (awaits number r l) else nothing l).link.phase ≡ l.phase
    by_test true = refl
    by_test false = refl

data_phase : (number : ℕ) (values : List MonitoredItemNotification) (r : Remembered) (l : LinkState) → (data_taken number values r l).link.phase ≡ l.phase
unfolding data_taken
data_phase number values r l = by_tests (is_next r.next number) (is_jump r.next number)
  where
    by_tests : (a b : Bool) → (if a then tells (all_taken l.monitored values) (newest number r l)
        else if b then tells (notice.Jump ∷ all_taken l.monitored values) (newest number r l)
        else nothing (acknowledged number l)).link.phase ≡ l.phase
    by_tests true b = refl
    by_tests false true = refl
    by_tests false false = refl

restarts_calm : (l : LinkState) → IsCalm (ready_rules.restarts l).link
unfolding ready_rules.restarts
restarts_calm l = subscribes_calm l

brings_calm : (c : Content) (number : ℕ) (r : Remembered) (l : LinkState) → IsCalm l → IsCalm (ready_rules.brings c number r l).link
unfolding ready_rules.brings
brings_calm content.Alive number r l h = fills_calm (kept_alive number r l).link (ap calls (alive_phase number r l) ∙ h)
brings_calm content.Ended number r l h = restarts_calm l
brings_calm (content.Values values) number r l h = fills_calm (data_taken number values r l).link (ap calls (data_phase number values r l) ∙ h)
brings_calm content.Unread number r l h = broken_calm l

-- ---- replies while it is ready

published_by : (o : Option Publishes) (remembered : Option Remembered) (r : PublishResponse) (ready : ReadyState) (l : LinkState)
    → IsCalm (ready_rules.publish_replied_by o remembered r ready l).link
unfolding ready_rules.publish_replied_by
published_by None remembered r ready l = broken_calm l
published_by (Some left) None r ready l = broken_calm l
published_by (Some left) (Some remembered) r ready l =
    calm_if (is_good r.response_header.service_result && (r.subscription_id == remembered.id))
    (ready_rules.message_brings r.notification_message remembered (ready_rules.heard_of_it left ready l)) (broken l)
    (brings_calm _ _ remembered (ready_rules.heard_of_it left ready l) refl) (broken_calm l)

publish_calm : (r : PublishResponse) (ready : ReadyState) (l : LinkState) → IsCalm (ready_rules.publish_replied r ready l).link
unfolding ready_rules.publish_replied
publish_calm r ready l = published_by _ l.remembered r ready l

refused_by : (o : Option Publishes) (code : ℕ) (ready : ReadyState) (l : LinkState) → IsCalm (ready_rules.publish_refused_by o code ready l).link
refused_by None code ready l = broken_calm l
refused_by (Some left) code ready l =
    calm_if (code == bad_too_many_publish_requests) (nothing (with_ready (record ready { publishes = left }) l))
    (if code == bad_no_subscription then ready_rules.restarts l else broken l) refl
    (calm_if (code == bad_no_subscription) (ready_rules.restarts l) (broken l) (restarts_calm l) (broken_calm l))

refused_calm : (h : ResponseHeader) (ready : ReadyState) (l : LinkState) → IsCalm (ready_rules.publish_refused h ready l).link
unfolding ready_rules.publish_refused
refused_calm h ready l = refused_by _ h.service_result ready l

leaves_calm : (level : ℕ) (l : LinkState) → IsCalm l → IsCalm (ready_rules.leaves_low level l).link
unfolding ready_rules.leaves_low
leaves_calm level l h = calm_if (ready_rules.is_left level l) (broken l) (nothing l) (broken_calm l) h

told_calm : (level : Option ℕ) (l : LinkState) → IsCalm l → IsCalm (ready_rules.level_told level l).link
unfolding ready_rules.level_told
told_calm None l h = broken_calm l
told_calm (Some level) l h = leaves_calm level (ready_rules.no_reading l) h

level_calm : (r : ReadResponse) (l : LinkState) → IsCalm l → IsCalm (ready_rules.level_replied r l).link
unfolding ready_rules.level_replied
level_calm r l h =
    calm_if (ready_rules.is_answer_to l.conversation.reading r.response_header) (ready_rules.level_told (ready_rules.one_level r.results) l)
    (broken l) (told_calm (ready_rules.one_level r.results) l h) (broken_calm l)

confirms_calm : (setting : Setting) (ready : ReadyState) (l : LinkState) → IsCalm (ready_rules.confirms setting ready l).link
unfolding ready_rules.confirms
confirms_calm setting ready l =
    sets_mode_calm (with_ready (record ready { setting = None; confirmed = Some setting.mode }) l) refl

mode_by : (setting : Option Setting) (h : ResponseHeader) (ready : ReadyState) (l : LinkState) → IsCalm (ready_rules.mode_replied_by setting h ready l).link
mode_by None h ready l = broken_calm l
mode_by (Some setting) h ready l =
    calm_if (is_reply_to setting.asked.handle h) (ready_rules.confirms setting ready l) (broken l) (confirms_calm setting ready l) (broken_calm l)

ready_calm : (r : Reply) (ready : ReadyState) (l : LinkState) → IsCalm l → IsCalm (ready_rules.in_ready r ready l).link
unfolding ready_rules.in_ready ready_rules.mode_replied
ready_calm (reply.Session (session_reply.ServiceFault fault)) ready l h = refused_calm fault ready l
ready_calm (reply.Session (session_reply.Read r)) ready l h = level_calm r l h
ready_calm (reply.Subscription (sub_reply.Publish r)) ready l h = publish_calm r ready l
ready_calm (reply.Subscription (sub_reply.SetMonitoringMode r)) ready l h = mode_by ready.setting r.response_header ready l
ready_calm other ready l h = broken_calm l

-- ---- replies while its subscription is made

subscribed_calm : (id : ℕ) (l : LinkState) → IsCalm (sub_rules.subscribed id l).link
unfolding sub_rules.subscribed sub_rules.adds_items
subscribed_calm id l = asked_calm _ (with_phase phase.Adding (sub_rules.made id l)) refl

subscribing_calm : (r : Reply) (l : LinkState) → IsCalm (sub_rules.in_subscribing r l).link
unfolding sub_rules.in_subscribing
subscribing_calm (reply.Subscription (sub_reply.CreateSubscription r)) l =
    calm_if (is_answer r.response_header l) (sub_rules.subscribed r.subscription_id l) (broken l) (subscribed_calm r.subscription_id l) (broken_calm l)
subscribing_calm other l = broken_calm l

added_calm : (monitored : List Monitored) (l : LinkState) → IsCalm (sub_rules.added monitored l).link
unfolding sub_rules.added
added_calm [] l = broken_calm l
added_calm (first ∷ more) l = enters_calm (Some l.config.rest) (record l { monitored = first ∷ more })

adding_calm : (r : Reply) (l : LinkState) → IsCalm (sub_rules.in_adding r l).link
unfolding sub_rules.in_adding
adding_calm (reply.Subscription (sub_reply.CreateMonitoredItems r)) l =
    calm_if (is_answer r.response_header l) (sub_rules.added (sub_rules.monitored_of l.config.items r.results) l) (broken l)
    (added_calm (sub_rules.monitored_of l.config.items r.results) l) (broken_calm l)
adding_calm other l = broken_calm l

-- ---- replies on the way to Ready

again_calm : (numbers : List ℕ) (remembered : Remembered) (l : LinkState) → IsCalm (sub_rules.asks_again numbers remembered l).link
unfolding sub_rules.asks_again
again_calm [] remembered l = enters_calm None l
again_calm (number ∷ wanted) remembered l = asked_calm _ (with_phase (phase.Republishing wanted) l) refl

begins_by : (r : Option Remembered) (l : LinkState) → IsCalm (sub_rules.begins_by r l).link
begins_by None l = subscribes_calm l
begins_by (Some remembered) l = asked_calm _ (with_phase phase.Transferring l) refl

begins_calm : (l : LinkState) → IsCalm (sub_rules.begins l).link
unfolding sub_rules.begins
begins_calm l = begins_by l.remembered l

transfers_by : (a : Option (List ℕ)) (r : Option Remembered) (l : LinkState) → IsCalm (sub_rules.transfers_by a r l).link
transfers_by None r l = subscribes_calm l
transfers_by (Some available) None l = subscribes_calm l
transfers_by (Some available) (Some remembered) l = again_calm (wanted_of remembered.next available) remembered l

transferred_calm : (a : Option (List ℕ)) (h : ResponseHeader) (l : LinkState) → IsCalm (sub_rules.transferred a h l).link
unfolding sub_rules.transferred
transferred_calm a h l =
    calm_if (h.request_handle == l.conversation.last) (sub_rules.transfers_by a l.remembered l) (broken l)
    (transfers_by a l.remembered l) (broken_calm l)

transferring_calm : (r : Reply) (l : LinkState) → IsCalm (sub_rules.in_transferring r l).link
unfolding sub_rules.in_transferring
transferring_calm (reply.Session (session_reply.ServiceFault h)) l = transferred_calm None h l
transferring_calm (reply.Subscription (sub_reply.TransferSubscriptions r)) l = transferred_calm (sub_rules.available_of r) r.response_header l
transferring_calm other l = broken_calm l

goes_by : (o : Option (List ℕ)) (r : Option Remembered) (l : LinkState) → IsCalm l → IsCalm (sub_rules.goes_on_by o r l).link
goes_by None r l h = h
goes_by (Some wanted) None l h = h
goes_by (Some wanted) (Some remembered) l h = again_calm wanted remembered l

goes_calm : (l : LinkState) → IsCalm l → IsCalm (sub_rules.goes_on l).link
unfolding sub_rules.goes_on
goes_calm l h = goes_by (sub_rules.wanted_in l.phase) l.remembered l h

brings_again : (c : Content) (number : ℕ) (r : Remembered) (l : LinkState) → IsCalm l → IsCalm (sub_rules.brings_again c number r l).link
unfolding sub_rules.brings_again
brings_again content.Alive number r l h = ap calls (alive_phase number r l) ∙ h
brings_again content.Ended number r l h = h
brings_again (content.Values values) number r l h = ap calls (data_phase number values r l) ∙ h
brings_again content.Unread number r l h = broken_calm l

message_again : (m : NotificationMessage) (r : Option Remembered) (l : LinkState) → IsCalm l → IsCalm (sub_rules.message_again m r l).link
unfolding sub_rules.message_again
message_again m None l h = broken_calm l
message_again m (Some remembered) l h =
    goes_calm (sub_rules.brings_again (content_of m.notification_data) m.sequence_number remembered l).link
    (brings_again (content_of m.notification_data) m.sequence_number remembered l h)

republishing_calm : (r : Reply) (l : LinkState) → IsCalm l → IsCalm (sub_rules.in_republishing r l).link
unfolding sub_rules.in_republishing
republishing_calm (reply.Session (session_reply.ServiceFault h)) l calm =
    calm_if (is_fault l.conversation.last bad_message_not_available h) (sub_rules.goes_on l) (broken l) (goes_calm l calm) (broken_calm l)
republishing_calm (reply.Subscription (sub_reply.Republish r)) l calm =
    calm_if (is_answer r.response_header l) (sub_rules.message_again r.notification_message l.remembered l) (broken l)
    (message_again r.notification_message l.remembered l calm) (broken_calm l)
republishing_calm other l calm = broken_calm l

-- ---- replies while its session begins

creating_calm : (r : Reply) (l : LinkState) → IsCalm (start_rules.in_creating r l).link
unfolding start_rules.in_creating start_rules.activates
creating_calm (reply.Session (session_reply.CreateSession r)) l =
    calm_if (is_answer r.response_header l) (start_rules.activates (record l { session = r.authentication_token })) (broken l)
    (asked_calm _ (with_phase phase.Activating (record l { session = r.authentication_token })) refl) (broken_calm l)
creating_calm other l = broken_calm l

activating_calm : (r : Reply) (l : LinkState) → IsCalm (start_rules.in_activating r l).link
unfolding start_rules.in_activating start_rules.probes
activating_calm (reply.Session (session_reply.ActivateSession r)) l =
    calm_if (is_answer r.response_header l) (start_rules.probes l) (broken l)
    (asked_calm _ (with_phase phase.Probing (start_rules.has_read l)) refl) (broken_calm l)
activating_calm other l = broken_calm l

judges_calm : (level : ℕ) (support : ℤ) (l : LinkState) → IsCalm (start_rules.judges level support l).link
unfolding start_rules.judges start_rules.unsupported
judges_calm level support l =
    calm_if (start_rules.is_unused support) (start_rules.unsupported l) (if ready_rules.is_left level l then broken l else sub_rules.begins l)
    (broken_calm (record l { unsupported = true }))
    (calm_if (ready_rules.is_left level l) (broken l) (sub_rules.begins l) (broken_calm l) (begins_calm l))

probed_by : (level : Option ℕ) (support : Option ℤ) (l : LinkState) → IsCalm (start_rules.probed_by level support l).link
unfolding start_rules.probed_by
probed_by (Some level) (Some support) l = judges_calm level support l
probed_by (Some level) None l = broken_calm l
probed_by None support l = broken_calm l

probed_calm : (values : List (Stamped Variant)) (l : LinkState) → IsCalm (start_rules.probed values l).link
unfolding start_rules.probed
probed_calm [] l = broken_calm l
probed_calm (level ∷ []) l = broken_calm l
probed_calm (level ∷ support ∷ []) l = probed_by (ready_rules.level_of level) (start_rules.support_of support) l
probed_calm (level ∷ support ∷ another ∷ more) l = broken_calm l

probing_calm : (r : Reply) (l : LinkState) → IsCalm (start_rules.in_probing r l).link
unfolding start_rules.in_probing
probing_calm (reply.Session (session_reply.Read r)) l =
    calm_if (is_answer r.response_header l) (start_rules.probed r.results l) (broken l) (probed_calm r.results l) (broken_calm l)
probing_calm other l = broken_calm l

replied_calm : (p : Phase) (r : Reply) (l : LinkState) → IsCalm l → IsCalm (step_rules.replied_in p r l).link
replied_calm phase.Idle r l h = broken_calm l
replied_calm (phase.Dialing taken) r l h = broken_calm l
replied_calm phase.Hello r l h = broken_calm l
replied_calm phase.Opening r l h = broken_calm l
replied_calm phase.Creating r l h = creating_calm r l
replied_calm phase.Activating r l h = activating_calm r l
replied_calm phase.Probing r l h = probing_calm r l
replied_calm phase.Transferring r l h = transferring_calm r l
replied_calm (phase.Republishing wanted) r l h = republishing_calm r l h
replied_calm phase.Subscribing r l h = subscribing_calm r l
replied_calm phase.Adding r l h = adding_calm r l
replied_calm (phase.Ready ready) r l h = ready_calm r ready l h

read_calm : (result : Result Reply BodyFault) (l : LinkState) → IsCalm l → IsCalm (step_rules.replied_by result l).link
read_calm (Ok r) l h = replied_calm l.phase r l h
read_calm (Err fault) l h = broken_calm l

-- ---- whatever is heard

renews_calm : (r : OpenSecureChannelResponse) (l : LinkState) → IsCalm l
    → IsCalm (if ready_rules.is_answer_to l.conversation.renewal r.response_header then
    open_rules.renews r.security_token (open_rules.heard_once l) else broken l).link
unfolding open_rules.renews
renews_calm r l h =
    calm_if (ready_rules.is_answer_to l.conversation.renewal r.response_header) (open_rules.renews r.security_token (open_rules.heard_once l))
    (broken l) h (broken_calm l)

channel_calm : (p : Phase) (r : OpenSecureChannelResponse) (l : LinkState) → IsCalm l → IsCalm (open_rules.channel_replied_in p r l).link
unfolding open_rules.channel_replied_in open_rules.creates_session
channel_calm phase.Opening r l h =
    calm_if (is_answer r.response_header l) (and_then open_rules.creates_session (open_rules.renews r.security_token l)) (broken l)
    (asked_calm _ (with_phase phase.Creating (open_rules.renews r.security_token l).link) refl) (broken_calm l)
channel_calm phase.Idle r l h = renews_calm r l h
channel_calm other r l h = renews_calm r l h

opening_reply_calm : (r : Reply) (l : LinkState) → IsCalm l → IsCalm (open_rules.in_opening r l).link
unfolding open_rules.in_opening
opening_reply_calm (reply.Session (session_reply.OpenSecureChannel r)) l h = channel_calm l.phase r l h
opening_reply_calm other l h = broken_calm l

read_opening_calm : (result : Result Reply BodyFault) (l : LinkState) → IsCalm l → IsCalm (step_rules.opening_by result l).link
read_opening_calm (Ok r) l h = opening_reply_calm r l h
read_opening_calm (Err fault) l h = broken_calm l

acknowledged_calm : (g : Greeting) (l : LinkState) → IsCalm (open_rules.acknowledged_by g l).link
unfolding open_rules.acknowledged_by open_rules.opens_channel
acknowledged_calm g l =
    calm_if (open_rules.is_enough g)
    (and_then open_rules.opens_channel (says (Limited (open_rules.limits_of g)) (open_rules.with_limit (open_rules.limit_named g) l))) (broken l)
    (opening_calm _ (with_phase phase.Opening (open_rules.with_limit (open_rules.limit_named g) l)) refl) (broken_calm l)

greeting_calm : (result : Result Greeting Fault) (l : LinkState) → IsCalm (open_rules.greeted_by result l).link
unfolding open_rules.greeted_by
greeting_calm (Ok g) l = acknowledged_calm g l
greeting_calm (Err fault) l = broken_calm l

greeted_calm : (p : Phase) (body : List ℕ) (l : LinkState) → IsCalm (open_rules.greeted_in p body l).link
greeted_calm phase.Hello body l = greeting_calm _ l
greeted_calm phase.Idle body l = broken_calm l
greeted_calm other body l = broken_calm l

hears_calm : (h : Heard) (l : LinkState) → IsCalm l → IsCalm (step_rules.hears h l).link
unfolding open_rules.greeted step_rules.opening_replied step_rules.replied
hears_calm (heard_of.Greeting body) l h = greeted_calm l.phase body l
hears_calm (heard_of.Opening channel follows request body) l h =
    calm_if follows (step_rules.opening_by (body_at replies body) l) (broken l) (read_opening_calm (body_at replies body) l h) (broken_calm l)
hears_calm (heard_of.Message request body) l h = read_calm (body_at replies body) l h
hears_calm heard_of.Close l h = broken_calm l
hears_calm (heard_of.Fault code) l h = broken_calm l

heard_calm : (h : Heard) (l : LinkState) → IsCalm l → IsCalm (step_rules.heard h l).link
unfolding step_rules.heard
heard_calm h l calm = calm_if (is_deaf (step_rules.ear_of l)) (nothing l) (step_rules.hears h l) calm (hears_calm h l calm)

-- ---- other events

reads_calm : (l : LinkState) → IsCalm l → IsCalm (time_rules.reads_level l).link
unfolding time_rules.reads_level
reads_calm l h =
    calm_if (time_rules.is_level_due l.conversation.reading l) (asked (level_request l) (time_rules.with_reading l)) (nothing l)
    (asked_calm (level_request l) (time_rules.with_reading l) h) h

token_calm : (l : LinkState) → IsCalm l → IsCalm (time_rules.renews_token l).link
unfolding time_rules.renews_token
token_calm l h =
    calm_if (is_ready l) (if time_rules.is_renewal_due l.conversation.renewal l
    then asked_opening (channel_request (pos 1) l) (time_rules.with_renewal l) else nothing l) (nothing l)
    (calm_if (time_rules.is_renewal_due l.conversation.renewal l) (asked_opening (channel_request (pos 1) l) (time_rules.with_renewal l)) (nothing l)
    (opening_calm (channel_request (pos 1) l) (time_rules.with_renewal l) h) h) h

keeps_calm : (l : LinkState) → IsCalm l → IsCalm (time_rules.keeps_up l).link
unfolding time_rules.keeps_up
keeps_calm l h =
    calm_if (is_ready l) (and_then time_rules.renews_token (time_rules.reads_level l)) (nothing l)
    (token_calm (time_rules.reads_level l).link (reads_calm l h)) h

ticked_calm : (ms : ℕ) (l : LinkState) → IsCalm l → IsCalm (time_rules.ticked ms l).link
unfolding time_rules.ticked
ticked_calm ms l h =
    calm_if (time_rules.is_overdue (time_rules.aged ms l)) (broken (time_rules.aged ms l)) (time_rules.keeps_up (time_rules.aged ms l))
    (broken_calm (time_rules.aged ms l)) (keeps_calm (time_rules.aged ms l) h)

wants_by : (o : Option ReadyState) (mode : Mode) (l : LinkState) → IsCalm l → IsCalm (step_rules.wants_in o mode l).link
wants_by None mode l h = h
wants_by (Some ready) mode l h = sets_mode_calm (with_ready (record ready { wanted = Some mode }) l) refl

wants_calm : (mode : Mode) (l : LinkState) → IsCalm l → IsCalm (step_rules.wants mode l).link
unfolding step_rules.wants
wants_calm mode l h = wants_by (ready_in l.phase) mode l h

greets_calm : (url : Option (List ℕ)) (l : LinkState) → IsCalm l → IsCalm (open_rules.greets url l).link
unfolding open_rules.greets
greets_calm url l h = calm_if (open_rules.is_short url) (says (Greeted hello url) l) (broken l) h (broken_calm l)

opened_by : (p : Phase) (url : Option (List ℕ)) (l : LinkState) → p ≡ l.phase → IsDialling p → IsCalm (open_rules.opened_in p url l).link
opened_by (phase.Dialing taken) url l same dialling = greets_calm url (open_rules.connected url l) refl
opened_by phase.Idle url l same dialling = absurd dialling
opened_by other url l same dialling = absurd dialling

-- where it is awaited, a connection is opened once for a dial
pub opened_calm : (url : Option (List ℕ)) (l : LinkState) → IsDialling l.phase → IsCalm (open_rules.opened url l).link
unfolding open_rules.opened
opened_calm url l dialling = opened_by l.phase url l refl dialling

dial_by : (p : Phase) (l : LinkState) → IsCalm l → IsCalm (open_rules.refused_in p l).link
dial_by (phase.Dialing taken) l h = dropped_calm l
dial_by other l h = h

dial_refused : (l : LinkState) → IsCalm l → IsCalm (open_rules.refused l).link
unfolding open_rules.refused
dial_refused l h = dial_by l.phase l h

closed_by : (p : Phase) (l : LinkState) → IsCalm l → IsCalm (open_rules.closed_in p l).link
closed_by phase.Idle l h = h
closed_by (phase.Dialing taken) l h = h
closed_by other l h = dropped_calm l

closed_calm : (l : LinkState) → IsCalm l → IsCalm (open_rules.closed l).link
unfolding open_rules.closed
closed_calm l h =
    calm_if l.closes (nothing (record l { closes = false })) (open_rules.closed_in l.phase l) h (closed_by l.phase l h)

taken_calm : (p : Phase) → calls p ≡ 0 → calls (step_rules.taken_in p) ≡ 0
taken_calm (phase.Dialing taken) h = absurd cc
taken_calm phase.Idle h = h
taken_calm other h = h

takes_calm : (l : LinkState) (b : Bool) → IsCalm l → IsCalm (if b then record l { closes = false } else record l { phase = step_rules.taken_in l.phase })
takes_calm l true h = h
takes_calm l false h = taken_calm l.phase h

-- of all that may happen a dial alone has it dial
abbrev pub IsNoDial : Happening → Type 0
IsNoDial step_rules.Dials = ⊥
IsNoDial (step_rules.Opens url) = ⊥
IsNoDial other = Unit {0}

pub stays_calm : (h : Happening) (l : LinkState) → IsNoDial h → IsCalm l → IsCalm (after h l).link
stays_calm (step_rules.Opens url) l other calm = absurd other
stays_calm step_rules.Refuses l other calm = dial_refused l calm
stays_calm step_rules.Closes l other calm = closed_calm l calm
stays_calm (step_rules.Hears h) l other calm = heard_calm h l calm
stays_calm (step_rules.Ticks ms) l other calm = ticked_calm ms l calm
stays_calm (step_rules.Wants mode) l other calm = wants_calm mode l calm
stays_calm step_rules.Dials l other calm = absurd other
stays_calm step_rules.Takes l other calm = takes_calm l l.closes calm
