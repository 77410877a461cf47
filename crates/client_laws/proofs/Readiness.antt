-- A link is ready exactly where its notices tell so.
use Rattle.std.proofs.Common.{◌≡◌, ℕ, ℤ, zero, suc, ◌==◌, ◌&&◌, List, [], ◌∷◌, ◌++◌, length, Bool, true, false, nat_le, not, min, Option, Some, None, Result, Ok, Err, if◌then◌else◌, refl, sym, ◌∙◌, ap, subst}
use Rattle.std.specs.Prelude.{pos}
use Rattle.ua_base.specs.declared.modes.Mode.{Mode}
use Rattle.ua_structures.specs.declared.body.BodyFault.{BodyFault}
use Rattle.ua_structures.specs.declared.header.ResponseHeader.{ResponseHeader}
use Rattle.ua_channel.specs.declared.heard.Heard.{Heard}
use Rattle.ua_channel.specs.declared.heard.Heard.TheVariants as said
use Rattle.ua_channel.specs.State.{is_deaf}
use Rattle.ua_services.specs.declared.request.Request.{Request}
use Rattle.ua_services.specs.declared.reply.Reply.{Reply}
use Rattle.ua_services.specs.Families.{replies, written_request}
use Rattle.ua_values.specs.Reading.{Fault}
use Rattle.ua_variants.specs.declared.variant.Stamped.{Stamped}
use Rattle.ua_variants.specs.declared.variant.Variant.{Variant}
use Rattle.ua_chunks.specs.declared.greeting.Greeting.{Greeting}
use Rattle.ua_sub_msgs.specs.declared.publish.PublishResponse.{PublishResponse}
use Rattle.ua_session_msgs.specs.declared.attribute.ReadResponse.{ReadResponse}
use Rattle.ua_sub_msgs.specs.declared.notification.NotificationMessage.{NotificationMessage}
use Rattle.ua_session_msgs.specs.declared.channel.ChannelSecurityToken.{ChannelSecurityToken}
use Rattle.ua_session_msgs.specs.declared.channel.OpenSecureChannelResponse.{OpenSecureChannelResponse}
use Rattle.link_rules.specs.declared.notice.Notice.{Notice}
use Rattle.link_rules.specs.declared.notice.Notice.TheVariants as notice
use Rattle.link_rules.specs.declared.phase.Phase.{Phase}
use Rattle.link_rules.specs.declared.phase.Phase.TheVariants as phase
use Rattle.link_rules.specs.declared.phase.Publishes.{Publishes}
use Rattle.link_rules.specs.declared.phase.ReadyState.{ReadyState}
use Rattle.link_rules.specs.declared.phase.Setting.{Setting}
use Rattle.link_rules.specs.declared.content.Content.{Content}
use Rattle.link_rules.specs.declared.content.Content.TheVariants as content
use Rattle.link_rules.specs.declared.remembered.Monitored.{Monitored}
use Rattle.link_rules.specs.declared.remembered.Remembered.{Remembered}
use Rattle.ua_session_msgs.specs.declared.reply.SessionReply.TheVariants as session_reply
use Rattle.ua_sub_msgs.specs.declared.reply.SubReply.TheVariants as sub_reply
use Rattle.ua_services.specs.declared.reply.Reply.TheVariants as reply
use Rattle.ua_sub_msgs.specs.declared.notification.MonitoredItemNotification.{MonitoredItemNotification}
use Rattle.link_rules.specs.State.{LinkState, is_idle, is_idle_phase, is_ready, is_ready_phase, ready_in, with_phase, with_ready}
use Rattle.link_rules.specs.Said.{LinkDid, Asks, Greeted, Limited, Opens, and_then, nothing, says, tells}
use Rattle.link_rules.specs.Requests.{channel_request, hello, level_request, mode_request}
use Rattle.ua_structures.specs.Body.{body_at}
use Rattle.ua_base.specs.Status.{bad_message_not_available, bad_no_subscription, bad_too_many_publish_requests}
use Rattle.link_rules.specs.Closing.{broken, dropped, loss_of}
use Rattle.link_rules.specs.Asking.{asked, asked_opening, is_answer, is_fault, is_good, is_reply_to, next_request, numbered}
use Rattle.link_rules.specs.Messages.{acknowledged, all_taken, awaits, content_of, data_taken, kept_alive, newest, taken_as}
use Rattle.link_rules.specs.Numbers.{is_jump, is_next}
use Rattle.link_rules.specs.Publishing.{enters_ready, fills, has_room, mode_due, new_ready, published, publishes, publishes_in, sets, sets_if, sets_in, sets_mode, subscribes, tells_sent, with_publish, with_setting}
use Rattle.link_rules.specs.Ready as ready_rules
use Rattle.link_rules.specs.Subscribing as sub_rules
use Rattle.link_rules.specs.Starting as start_rules
use Rattle.link_rules.specs.Opening as open_rules
use Rattle.link_rules.specs.Time as time_rules
use Rattle.link_rules.specs.Step as step_rules
use Rattle.client_laws.specs.Choosing.{ready_by}

abbrev pub ready_after : List Notice → Bool → Bool
ready_after [] ready = ready
ready_after (n ∷ notices) ready = ready_after notices (ready_by n ready)

ready_append : (first more : List Notice) (ready : Bool)
    → ready_after (first ++ more) ready ≡ ready_after more (ready_after first ready)
ready_append [] more ready = refl
ready_append (n ∷ first) more ready = ready_append first more (ready_by n ready)

-- from such a beginning, a rule's notices tell whether the link is ready
pub record Tracks (ready : Bool) (did : LinkDid) : Type 0 where
  pub told : ready_after did.notices ready ≡ is_ready did.link

tracks_then : (ready : Bool) (did : LinkDid) (rule : LinkState → LinkDid) → Tracks ready did
    → Tracks (is_ready did.link) (rule did.link) → Tracks ready (and_then rule did)
tracks_then ready did rule first second = record {
  told = ready_append did.notices (rule did.link).notices ready ∙ ap (ready_after (rule did.link).notices) first.told ∙ second.told;
}

tracks_if : (ready b : Bool) (one other : LinkDid) → Tracks ready one → Tracks ready other
    → Tracks ready (if b then one else other)
tracks_if ready true one other first second = first
tracks_if ready false one other first second = second

-- ---- links that fall

lost_by : (p : Phase) → ready_after (loss_of p) (is_ready_phase p) ≡ false
lost_by phase.Idle = refl
lost_by (phase.Dialing taken) = refl
lost_by phase.Hello = refl
lost_by phase.Opening = refl
lost_by phase.Creating = refl
lost_by phase.Activating = refl
lost_by phase.Probing = refl
lost_by phase.Transferring = refl
lost_by (phase.Republishing wanted) = refl
lost_by phase.Subscribing = refl
lost_by phase.Adding = refl
lost_by (phase.Ready ready) = refl

pub broken_tracks : (l : LinkState) → Tracks (is_ready l) (broken l)
unfolding broken
broken_tracks l = record { told = lost_by l.phase }

pub dropped_tracks : (l : LinkState) → Tracks (is_ready l) (dropped l)
unfolding dropped
dropped_tracks l = record { told = lost_by l.phase }

pub asked_tracks : (request : Request) (l : LinkState) → Tracks (is_ready l) (asked request l)
unfolding asked
asked_tracks request l =
    tracks_if (is_ready l) (nat_le (length (written_request request)) l.conversation.limit)
    (numbered (Asks (next_request l) request) l) (broken l) (record { told = refl }) (broken_tracks l)

pub opening_tracks : (request : Request) (l : LinkState) → Tracks (is_ready l) (asked_opening request l)
unfolding asked_opening
opening_tracks request l =
    tracks_if (is_ready l) (nat_le (length (written_request request)) (min l.conversation.limit 4096))
    (numbered (Opens (next_request l) request) l) (broken l) (record { told = refl }) (broken_tracks l)

-- a link that wasn't ready
broken_false : (l : LinkState) → is_ready l ≡ false → Tracks false (broken l)
broken_false l e = subst (λ b. Tracks b (broken l)) e (broken_tracks l)

broken_true : (l : LinkState) → is_ready l ≡ true → Tracks true (broken l)
broken_true l e = subst (λ b. Tracks b (broken l)) e (broken_tracks l)

-- ---- what is done as soon as it can

ready_is : (p : Phase) (ready : ReadyState) → ready_in p ≡ Some ready → is_ready_phase p ≡ true
ready_is (phase.Ready other) ready e = refl
ready_is phase.Idle ready e = absurd cc
ready_is (phase.Dialing taken) ready e = absurd cc
ready_is phase.Hello ready e = absurd cc
ready_is phase.Opening ready e = absurd cc
ready_is phase.Creating ready e = absurd cc
ready_is phase.Activating ready e = absurd cc
ready_is phase.Probing ready e = absurd cc
ready_is phase.Transferring ready e = absurd cc
ready_is (phase.Republishing wanted) ready e = absurd cc
ready_is phase.Subscribing ready e = absurd cc
ready_is phase.Adding ready e = absurd cc

publishes_by : (l : LinkState) (o : Option ReadyState) (r : Option Remembered) → ready_in l.phase ≡ o
    → Tracks (is_ready l) (publishes_in o r l)
unfolding published
publishes_by l None r e = record { told = refl }
publishes_by l (Some ready) None e = record { told = refl }
publishes_by l (Some ready) (Some remembered) e =
    subst (λ b. Tracks b (publishes_in (Some ready) (Some remembered) l)) (sym (ready_is l.phase ready e))
    (tracks_if true (has_room ready.publishes) (published ready remembered l) (nothing l)
    (asked_tracks _ (with_publish ready l)) (record { told = sym (ready_is l.phase ready e) }))

publishes_tracks : (l : LinkState) → Tracks (is_ready l) (publishes l)
unfolding publishes
publishes_tracks l = publishes_by l (ready_in l.phase) l.remembered refl

fills_tracks : (l : LinkState) → Tracks (is_ready l) (fills l)
unfolding fills
fills_tracks l = tracks_then (is_ready l) (publishes l) publishes (publishes_tracks l) (publishes_tracks (publishes l).link)

sent_tracks : (mode : Mode) (l : LinkState) → Tracks (is_ready l) (tells_sent mode l)
unfolding tells_sent
sent_tracks mode l = tracks_if (is_ready l) (is_ready l) (tells (notice.Sent mode ∷ []) l) (nothing l) (record { told = refl }) (record { told = refl })

sets_tracks : (mode : Mode) (ready : ReadyState) (remembered : Remembered) (l : LinkState) → Tracks true (sets mode ready remembered l)
unfolding sets
sets_tracks mode ready remembered l =
    tracks_then true (asked (mode_request remembered.id mode l) (with_setting mode ready l)) (tells_sent mode) (asked_tracks _ (with_setting mode ready l))
    (sent_tracks mode (asked (mode_request remembered.id mode l) (with_setting mode ready l)).link)

sets_if_tracks : (mode : Option Mode) (ready : ReadyState) (r : Option Remembered) (l : LinkState) → is_ready l ≡ true
    → Tracks true (sets_if mode ready r l)
sets_if_tracks None ready r l e = record { told = sym e }
sets_if_tracks (Some mode) ready None l e = record { told = sym e }
sets_if_tracks (Some mode) ready (Some remembered) l e = sets_tracks mode ready remembered l

sets_by : (l : LinkState) (o : Option ReadyState) → ready_in l.phase ≡ o → Tracks (is_ready l) (sets_in o l)
sets_by l None e = record { told = refl }
sets_by l (Some ready) e =
    let is = ready_is l.phase ready e in
    subst (λ b. Tracks b (sets_in (Some ready) l)) (sym is) (sets_if_tracks (mode_due ready) ready l.remembered l is)

mode_tracks : (l : LinkState) → Tracks (is_ready l) (sets_mode l)
unfolding sets_mode
mode_tracks l = sets_by l (ready_in l.phase) refl

enters_tracks : (before : Bool) (confirmed : Option Mode) (l : LinkState) → Tracks before (enters_ready confirmed l)
unfolding enters_ready
enters_tracks before confirmed l =
    tracks_then before (tells (notice.Ready ∷ []) (with_phase (phase.Ready (new_ready confirmed)) l)) fills (record { told = refl })
    (fills_tracks (with_phase (phase.Ready (new_ready confirmed)) l))

subscribes_tracks : (l : LinkState) → Tracks false (subscribes l)
unfolding subscribes
subscribes_tracks l = asked_tracks _ _

-- ---- messages

taken_tells : (o : Option Monitored) (one : MonitoredItemNotification) (more : List Notice) (b : Bool)
    → ready_after (taken_as o one.value ++ more) b ≡ ready_after more b
taken_tells None one more b = refl
taken_tells (Some monitored) one more b = refl

all_tell : (items : List Monitored) (values : List MonitoredItemNotification) (b : Bool) → ready_after (all_taken items values) b ≡ b
all_tell items [] b = refl
all_tell items (one ∷ values) b =
    taken_tells _ one (all_taken items values) b ∙ all_tell items values b

alive_tracks : (number : ℕ) (remembered : Remembered) (l : LinkState) → Tracks (is_ready l) (kept_alive number remembered l)
unfolding kept_alive
alive_tracks number remembered l =
    tracks_if (is_ready l) (is_jump remembered.next number) (tells (notice.Jump ∷ []) (awaits number remembered l)) (nothing l) (record { told = refl }) (record { told = refl })

data_tracks : (number : ℕ) (values : List MonitoredItemNotification) (remembered : Remembered) (l : LinkState)
    → Tracks (is_ready l) (data_taken number values remembered l)
unfolding data_taken
data_tracks number values remembered l =
    tracks_if (is_ready l) (is_next remembered.next number)
    (tells (all_taken l.monitored values) (newest number remembered l))
    (if is_jump remembered.next number then
    tells (notice.Jump ∷ all_taken l.monitored values) (newest number remembered l)
    else nothing (acknowledged number l))
    (record { told = all_tell l.monitored values (is_ready l) })
    (tracks_if (is_ready l) (is_jump remembered.next number)
    (tells (notice.Jump ∷ all_taken l.monitored values) (newest number remembered l)) (nothing (acknowledged number l))
    (record { told = all_tell l.monitored values (is_ready l) }) (record { told = refl }))

-- ---- in Ready

restarts_tracks : (b : Bool) (l : LinkState) → Tracks b (ready_rules.restarts l)
unfolding ready_rules.restarts
restarts_tracks b l = record { told = (subscribes_tracks l).told }

then_fills : (b : Bool) (did : LinkDid) → Tracks b did → Tracks b (and_then fills did)
then_fills b did first = tracks_then b did fills first (fills_tracks did.link)

brings_tracks : (c : Content) (number : ℕ) (remembered : Remembered) (l : LinkState)
    → Tracks (is_ready l) (ready_rules.brings c number remembered l)
unfolding ready_rules.brings
brings_tracks content.Alive number remembered l = then_fills (is_ready l) (kept_alive number remembered l) (alive_tracks number remembered l)
brings_tracks content.Ended number remembered l = restarts_tracks (is_ready l) l
brings_tracks (content.Values values) number remembered l = then_fills (is_ready l) (data_taken number values remembered l) (data_tracks number values remembered l)
brings_tracks content.Unread number remembered l = broken_tracks l

publish_by : (left : Option Publishes) (r : Option Remembered) (p : PublishResponse) (ready : ReadyState) (l : LinkState) → is_ready l ≡ true
    → Tracks true (ready_rules.publish_replied_by left r p ready l)
unfolding ready_rules.publish_replied_by
publish_by None r p ready l e = broken_true l e
publish_by (Some left) None p ready l e = broken_true l e
publish_by (Some left) (Some remembered) p ready l e =
    tracks_if true (is_good p.response_header.service_result && (p.subscription_id == remembered.id))
    (ready_rules.message_brings p.notification_message remembered (ready_rules.heard_of_it left ready l)) (broken l)
    (brings_tracks (content_of p.notification_message.notification_data) p.notification_message.sequence_number remembered
    (ready_rules.heard_of_it left ready l)) (broken_true l e)

refused_by : (left : Option Publishes) (code : ℕ) (ready : ReadyState) (l : LinkState) → is_ready l ≡ true
    → Tracks true (ready_rules.publish_refused_by left code ready l)
refused_by None code ready l e = broken_true l e
refused_by (Some left) code ready l e =
    tracks_if true (code == bad_too_many_publish_requests) (nothing (with_ready (record ready { publishes = left }) l))
    (if code == bad_no_subscription then ready_rules.restarts l else broken l) (record { told = refl })
    (tracks_if true (code == bad_no_subscription) (ready_rules.restarts l) (broken l) (restarts_tracks true l) (broken_true l e))

low_tracks : (level : ℕ) (l : LinkState) → Tracks (is_ready l) (ready_rules.leaves_low level l)
unfolding ready_rules.leaves_low
low_tracks level l = tracks_if (is_ready l) (ready_rules.is_left level l) (broken l) (nothing l) (broken_tracks l) (record { told = refl })

level_tracks : (level : Option ℕ) (l : LinkState) → Tracks (is_ready l) (ready_rules.level_told level l)
unfolding ready_rules.level_told
level_tracks None l = broken_tracks l
level_tracks (Some level) l =
    tracks_then (is_ready l) (tells (notice.Level level ∷ []) (ready_rules.no_reading l)) (ready_rules.leaves_low level) (record { told = refl })
    (low_tracks level (ready_rules.no_reading l))

level_replied_tracks : (r : ReadResponse) (l : LinkState) → Tracks (is_ready l) (ready_rules.level_replied r l)
unfolding ready_rules.level_replied
level_replied_tracks r l =
    tracks_if (is_ready l) (ready_rules.is_answer_to l.conversation.reading r.response_header)
    (ready_rules.level_told (ready_rules.one_level r.results) l) (broken l) (level_tracks (ready_rules.one_level r.results) l) (broken_tracks l)

confirms_tracks : (setting : Setting) (ready : ReadyState) (l : LinkState) → Tracks true (ready_rules.confirms setting ready l)
unfolding ready_rules.confirms
confirms_tracks setting ready l =
    let l_now : LinkState = with_ready (record ready { setting = None; confirmed = Some setting.mode }) l in
    tracks_then true (tells (notice.Confirmed setting.mode ∷ []) l_now) sets_mode (record { told = refl }) (mode_tracks l_now)

mode_by : (setting : Option Setting) (h : ResponseHeader) (ready : ReadyState) (l : LinkState) → is_ready l ≡ true
    → Tracks true (ready_rules.mode_replied_by setting h ready l)
mode_by None h ready l e = broken_true l e
mode_by (Some setting) h ready l e =
    tracks_if true (is_reply_to setting.asked.handle h) (ready_rules.confirms setting ready l) (broken l) (confirms_tracks setting ready l) (broken_true l e)

level_true : (r : ReadResponse) (l : LinkState) → is_ready l ≡ true → Tracks true (ready_rules.level_replied r l)
level_true r l e = subst (λ b. Tracks b (ready_rules.level_replied r l)) e (level_replied_tracks r l)

ready_tracks : (r : Reply) (ready : ReadyState) (l : LinkState) → is_ready l ≡ true → Tracks true (ready_rules.in_ready r ready l)
unfolding ready_rules.in_ready ready_rules.publish_refused ready_rules.publish_replied ready_rules.mode_replied
ready_tracks (reply.Session (session_reply.ServiceFault h)) ready l e = refused_by _ h.service_result ready l e
ready_tracks (reply.Session (session_reply.Read r)) ready l e = level_true r l e
ready_tracks (reply.Subscription (sub_reply.Publish r)) ready l e = publish_by _ l.remembered r ready l e
ready_tracks (reply.Subscription (sub_reply.SetMonitoringMode r)) ready l e = mode_by ready.setting r.response_header ready l e
ready_tracks other ready l e = broken_true l e

-- ---- on the way to Ready

again_tracks : (numbers : List ℕ) (remembered : Remembered) (l : LinkState) → Tracks false (sub_rules.asks_again numbers remembered l)
unfolding sub_rules.asks_again
again_tracks [] remembered l = enters_tracks false None l
again_tracks (number ∷ wanted) remembered l = asked_tracks _ _

begins_by : (r : Option Remembered) (l : LinkState) → Tracks false (sub_rules.begins_by r l)
begins_by None l = subscribes_tracks l
begins_by (Some remembered) l = asked_tracks _ _

begins_tracks : (l : LinkState) → Tracks false (sub_rules.begins l)
unfolding sub_rules.begins
begins_tracks l = begins_by l.remembered l

transfers_by : (a : Option (List ℕ)) (r : Option Remembered) (l : LinkState) → Tracks false (sub_rules.transfers_by a r l)
transfers_by None r l = subscribes_tracks l
transfers_by (Some available) None l = subscribes_tracks l
transfers_by (Some available) (Some remembered) l = again_tracks _ remembered l

transferred_tracks : (a : Option (List ℕ)) (h : ResponseHeader) (l : LinkState) → is_ready l ≡ false
    → Tracks false (sub_rules.transferred a h l)
unfolding sub_rules.transferred
transferred_tracks a h l e =
    tracks_if false (h.request_handle == l.conversation.last) (sub_rules.transfers_by a l.remembered l) (broken l) (transfers_by a l.remembered l) (broken_false l e)

transferring_tracks : (r : Reply) (l : LinkState) → is_ready l ≡ false → Tracks false (sub_rules.in_transferring r l)
unfolding sub_rules.in_transferring
transferring_tracks (reply.Session (session_reply.ServiceFault h)) l e = transferred_tracks None h l e
transferring_tracks (reply.Subscription (sub_reply.TransferSubscriptions r)) l e = transferred_tracks _ r.response_header l e
transferring_tracks other l e = broken_false l e

wanted_is : (p : Phase) (wanted : List ℕ) → sub_rules.wanted_in p ≡ Some wanted → is_ready_phase p ≡ false
wanted_is (phase.Republishing other) wanted e = refl
wanted_is (phase.Ready ready) wanted e = absurd cc
wanted_is phase.Idle wanted e = refl
wanted_is (phase.Dialing taken) wanted e = refl
wanted_is phase.Hello wanted e = refl
wanted_is phase.Opening wanted e = refl
wanted_is phase.Creating wanted e = refl
wanted_is phase.Activating wanted e = refl
wanted_is phase.Probing wanted e = refl
wanted_is phase.Transferring wanted e = refl
wanted_is phase.Subscribing wanted e = refl
wanted_is phase.Adding wanted e = refl

goes_by : (l : LinkState) (o : Option (List ℕ)) (r : Option Remembered) → sub_rules.wanted_in l.phase ≡ o
    → Tracks (is_ready l) (sub_rules.goes_on_by o r l)
goes_by l None r e = record { told = refl }
goes_by l (Some wanted) None e = record { told = refl }
goes_by l (Some wanted) (Some remembered) e =
    subst (λ b. Tracks b (sub_rules.goes_on_by (Some wanted) (Some remembered) l)) (sym (wanted_is l.phase wanted e))
    (again_tracks wanted remembered l)

goes_tracks : (l : LinkState) → Tracks (is_ready l) (sub_rules.goes_on l)
unfolding sub_rules.goes_on
goes_tracks l = goes_by l (sub_rules.wanted_in l.phase) l.remembered refl

brings_again : (c : Content) (number : ℕ) (remembered : Remembered) (l : LinkState)
    → Tracks (is_ready l) (sub_rules.brings_again c number remembered l)
unfolding sub_rules.brings_again
brings_again content.Alive number remembered l = alive_tracks number remembered l
brings_again content.Ended number remembered l = record { told = refl }
brings_again (content.Values values) number remembered l = data_tracks number values remembered l
brings_again content.Unread number remembered l = broken_tracks l

message_again : (m : NotificationMessage) (r : Option Remembered) (l : LinkState) → Tracks (is_ready l) (sub_rules.message_again m r l)
unfolding sub_rules.message_again
message_again m None l = broken_tracks l
message_again m (Some remembered) l =
    let did : LinkDid = sub_rules.brings_again (content_of m.notification_data) m.sequence_number remembered l in
    tracks_then (is_ready l) did sub_rules.goes_on
    (brings_again (content_of m.notification_data) m.sequence_number remembered l) (goes_tracks did.link)

republishing_tracks : (r : Reply) (l : LinkState) → Tracks (is_ready l) (sub_rules.in_republishing r l)
unfolding sub_rules.in_republishing
republishing_tracks (reply.Session (session_reply.ServiceFault h)) l =
    tracks_if (is_ready l) (is_fault l.conversation.last bad_message_not_available h) (sub_rules.goes_on l) (broken l) (goes_tracks l) (broken_tracks l)
republishing_tracks (reply.Subscription (sub_reply.Republish r)) l =
    tracks_if (is_ready l) (is_answer r.response_header l) (sub_rules.message_again r.notification_message l.remembered l) (broken l)
    (message_again r.notification_message l.remembered l) (broken_tracks l)
republishing_tracks other l = broken_tracks l

streams_tell : (count : ℕ) (b : Bool) → ready_after (sub_rules.streams count) b ≡ b
streams_tell zero b = refl
streams_tell (suc count) b =
    ready_append (sub_rules.streams count) (notice.Stream (suc count) ∷ []) b ∙ streams_tell count b

adds_tracks : (id : ℕ) (l : LinkState) → Tracks false (sub_rules.adds_items id l)
unfolding sub_rules.adds_items
adds_tracks id l = asked_tracks _ _

subscribed_tracks : (id : ℕ) (l : LinkState) → is_ready l ≡ false → Tracks false (sub_rules.subscribed id l)
unfolding sub_rules.subscribed
subscribed_tracks id l e =
    tracks_then false (tells (sub_rules.streams l.config.items) (sub_rules.made id l)) (sub_rules.adds_items id)
    (record { told = streams_tell l.config.items false ∙ sym e })
    (subst (λ b. Tracks b (sub_rules.adds_items id (sub_rules.made id l))) (sym e) (adds_tracks id (sub_rules.made id l)))

subscribing_tracks : (r : Reply) (l : LinkState) → is_ready l ≡ false → Tracks false (sub_rules.in_subscribing r l)
unfolding sub_rules.in_subscribing
subscribing_tracks (reply.Subscription (sub_reply.CreateSubscription r)) l e =
    tracks_if false (is_answer r.response_header l) (sub_rules.subscribed r.subscription_id l) (broken l) (subscribed_tracks r.subscription_id l e) (broken_false l e)
subscribing_tracks other l e = broken_false l e

added_tracks : (items : List Monitored) (l : LinkState) → is_ready l ≡ false → Tracks false (sub_rules.added items l)
unfolding sub_rules.added
added_tracks [] l e = broken_false l e
added_tracks (first ∷ more) l e = enters_tracks false _ _

adding_tracks : (r : Reply) (l : LinkState) → is_ready l ≡ false → Tracks false (sub_rules.in_adding r l)
unfolding sub_rules.in_adding
adding_tracks (reply.Subscription (sub_reply.CreateMonitoredItems r)) l e =
    tracks_if false (is_answer r.response_header l) (sub_rules.added (sub_rules.monitored_of l.config.items r.results) l) (broken l)
    (added_tracks (sub_rules.monitored_of l.config.items r.results) l e) (broken_false l e)
adding_tracks other l e = broken_false l e

activates_tracks : (l : LinkState) → Tracks false (start_rules.activates l)
unfolding start_rules.activates
activates_tracks l = asked_tracks _ _

creating_tracks : (r : Reply) (l : LinkState) → is_ready l ≡ false → Tracks false (start_rules.in_creating r l)
unfolding start_rules.in_creating
creating_tracks (reply.Session (session_reply.CreateSession r)) l e =
    let l_now : LinkState = record l { session = r.authentication_token } in
    tracks_if false (is_answer r.response_header l) (start_rules.activates l_now) (broken l) (activates_tracks l_now) (broken_false l e)
creating_tracks other l e = broken_false l e

probes_tracks : (l : LinkState) → Tracks false (start_rules.probes l)
unfolding start_rules.probes
probes_tracks l = asked_tracks _ _

activating_tracks : (r : Reply) (l : LinkState) → is_ready l ≡ false → Tracks false (start_rules.in_activating r l)
unfolding start_rules.in_activating
activating_tracks (reply.Session (session_reply.ActivateSession r)) l e =
    tracks_if false (is_answer r.response_header l) (start_rules.probes l) (broken l) (probes_tracks l) (broken_false l e)
activating_tracks other l e = broken_false l e

unsupported_tracks : (l : LinkState) → Tracks (is_ready l) (start_rules.unsupported l)
unfolding start_rules.unsupported
unsupported_tracks l =
    let l_now : LinkState = record l { unsupported = true } in
    tracks_then (is_ready l) (tells (notice.Unsupported ∷ []) l_now) broken (record { told = refl }) (broken_tracks l_now)

judges_tracks : (level : ℕ) (support : ℤ) (l : LinkState) → is_ready l ≡ false → Tracks false (start_rules.judges level support l)
unfolding start_rules.judges
judges_tracks level support l e =
    tracks_if false (start_rules.is_unused support) (start_rules.unsupported l)
    (if ready_rules.is_left level l then broken l else sub_rules.begins l) (subst (λ b. Tracks b (start_rules.unsupported l)) e (unsupported_tracks l))
    (tracks_if false (ready_rules.is_left level l) (broken l) (sub_rules.begins l) (broken_false l e) (begins_tracks l))

probed_by : (level : Option ℕ) (support : Option ℤ) (l : LinkState) → is_ready l ≡ false → Tracks false (start_rules.probed_by level support l)
unfolding start_rules.probed_by
probed_by None support l e = broken_false l e
probed_by (Some level) None l e = broken_false l e
probed_by (Some level) (Some support) l e =
    tracks_then false (tells (notice.Level level ∷ []) l) (start_rules.judges level support) (record { told = sym e })
    (subst (λ b. Tracks b (start_rules.judges level support l)) (sym e) (judges_tracks level support l e))

probed_tracks : (values : List (Stamped Variant)) (l : LinkState) → is_ready l ≡ false → Tracks false (start_rules.probed values l)
unfolding start_rules.probed
probed_tracks [] l e = broken_false l e
probed_tracks (level ∷ []) l e = broken_false l e
probed_tracks (level ∷ support ∷ []) l e = probed_by _ _ l e
probed_tracks (level ∷ support ∷ another ∷ more) l e = broken_false l e

probing_tracks : (r : Reply) (l : LinkState) → is_ready l ≡ false → Tracks false (start_rules.in_probing r l)
unfolding start_rules.in_probing
probing_tracks (reply.Session (session_reply.Read r)) l e =
    tracks_if false (is_answer r.response_header l) (start_rules.probed r.results l) (broken l) (probed_tracks r.results l e) (broken_false l e)
probing_tracks other l e = broken_false l e

-- ---- replies

-- a fact of a link that isn't ready, for any phase
unready : (l : LinkState) (p : Phase) (did : LinkDid) → l.phase ≡ p → is_ready_phase p ≡ false
    → (is_ready l ≡ false → Tracks false did) → Tracks (is_ready l) did
unready l p did e f tracks =
    let is : is_ready l ≡ false = ap is_ready_phase e ∙ f in subst (λ b. Tracks b did) (sym is) (tracks is)

replied_by : (p : Phase) (r : Reply) (l : LinkState) → l.phase ≡ p → Tracks (is_ready l) (step_rules.replied_in p r l)
replied_by phase.Idle r l e = broken_tracks l
replied_by (phase.Dialing taken) r l e = broken_tracks l
replied_by phase.Hello r l e = broken_tracks l
replied_by phase.Opening r l e = broken_tracks l
replied_by phase.Creating r l e = unready l phase.Creating _ e refl (creating_tracks r l)
replied_by phase.Activating r l e = unready l phase.Activating _ e refl (activating_tracks r l)
replied_by phase.Probing r l e = unready l phase.Probing _ e refl (probing_tracks r l)
replied_by phase.Transferring r l e = unready l phase.Transferring _ e refl (transferring_tracks r l)
replied_by (phase.Republishing wanted) r l e = republishing_tracks r l
replied_by phase.Subscribing r l e = unready l phase.Subscribing _ e refl (subscribing_tracks r l)
replied_by phase.Adding r l e = unready l phase.Adding _ e refl (adding_tracks r l)
replied_by (phase.Ready ready) r l e =
    let is : is_ready l ≡ true = ap is_ready_phase e in
    subst (λ b. Tracks b (step_rules.replied_in (phase.Ready ready) r l)) (sym is) (ready_tracks r ready l is)

read_reply : (result : Result Reply BodyFault) (l : LinkState) → Tracks (is_ready l) (step_rules.replied_by result l)
read_reply (Ok r) l = replied_by l.phase r l refl
read_reply (Err fault) l = broken_tracks l

-- ---- the channel

creates_tracks : (l : LinkState) → Tracks false (open_rules.creates_session l)
unfolding open_rules.creates_session
creates_tracks l = asked_tracks _ _

renews_tracks : (t : ChannelSecurityToken) (l : LinkState) → Tracks (is_ready l) (open_rules.renews t l)
unfolding open_rules.renews
renews_tracks t l = record { told = refl }

renewed_tracks : (t : ChannelSecurityToken) (l : LinkState) → Tracks (is_ready l) (open_rules.renews t (open_rules.heard_once l))
unfolding open_rules.renews
renewed_tracks t l = record { told = refl }

channel_renewed : (r : OpenSecureChannelResponse) (l : LinkState)
    → Tracks (is_ready l) (if ready_rules.is_answer_to l.conversation.renewal r.response_header then
    open_rules.renews r.security_token (open_rules.heard_once l) else broken l)
channel_renewed r l =
    tracks_if (is_ready l) (ready_rules.is_answer_to l.conversation.renewal r.response_header)
    (open_rules.renews r.security_token (open_rules.heard_once l)) (broken l)
    (renewed_tracks r.security_token l) (broken_tracks l)

channel_by : (p : Phase) (r : OpenSecureChannelResponse) (l : LinkState) → l.phase ≡ p → Tracks (is_ready l) (open_rules.channel_replied_in p r l)
unfolding open_rules.renews open_rules.channel_replied_in
channel_by phase.Opening r l e = unready l phase.Opening _ e refl (λ is.
    tracks_if false (is_answer r.response_header l)
    (and_then open_rules.creates_session (open_rules.renews r.security_token l)) (broken l)
    (tracks_then false (open_rules.renews r.security_token l) open_rules.creates_session (record { told = sym is })
    (subst (λ b. Tracks b (open_rules.creates_session (open_rules.with_token r.security_token l))) (sym is) (creates_tracks _)))
    (broken_false l is))
channel_by phase.Idle r l e = channel_renewed r l
channel_by other r l e = channel_renewed r l

opening_reply : (r : Reply) (l : LinkState) → Tracks (is_ready l) (open_rules.in_opening r l)
unfolding open_rules.in_opening
opening_reply (reply.Session (session_reply.OpenSecureChannel r)) l = channel_by l.phase r l refl
opening_reply other l = broken_tracks l

read_opening : (result : Result Reply BodyFault) (l : LinkState) → Tracks (is_ready l) (step_rules.opening_by result l)
read_opening (Ok r) l = opening_reply r l
read_opening (Err fault) l = broken_tracks l

opens_tracks : (l : LinkState) → Tracks false (open_rules.opens_channel l)
unfolding open_rules.opens_channel
opens_tracks l = opening_tracks _ _

acknowledged_tracks : (g : Greeting) (l : LinkState) → is_ready l ≡ false → Tracks false (open_rules.acknowledged_by g l)
unfolding open_rules.acknowledged_by
acknowledged_tracks g l e =
    let l_now : LinkState = open_rules.with_limit (open_rules.limit_named g) l in
    tracks_if false (open_rules.is_enough g)
    (and_then open_rules.opens_channel (says (Limited (open_rules.limits_of g)) l_now)) (broken l)
    (tracks_then false (says (Limited (open_rules.limits_of g)) l_now) open_rules.opens_channel (record { told = sym e })
    (subst (λ b. Tracks b (open_rules.opens_channel l_now)) (sym e) (opens_tracks l_now)))
    (broken_false l e)

greeting_tracks : (result : Result Greeting Fault) (l : LinkState) → is_ready l ≡ false → Tracks false (open_rules.greeted_by result l)
unfolding open_rules.greeted_by
greeting_tracks (Ok g) l e = acknowledged_tracks g l e
greeting_tracks (Err fault) l e = broken_false l e

greeted_by : (p : Phase) (body : List ℕ) (l : LinkState) → l.phase ≡ p → Tracks (is_ready l) (open_rules.greeted_in p body l)
greeted_by phase.Hello body l e = unready l phase.Hello _ e refl (greeting_tracks _ l)
greeted_by phase.Idle body l e = broken_tracks l
greeted_by other body l e = broken_tracks l

-- ---- what is heard

hears_tracks : (h : Heard) (l : LinkState) → Tracks (is_ready l) (step_rules.hears h l)
unfolding open_rules.greeted step_rules.opening_replied step_rules.replied
hears_tracks (said.Greeting body) l = greeted_by l.phase body l refl
hears_tracks (said.Opening channel follows request body) l =
    tracks_if (is_ready l) follows (step_rules.opening_by (body_at replies body) l) (broken l) (read_opening (body_at replies body) l) (broken_tracks l)
hears_tracks (said.Message request body) l = read_reply _ l
hears_tracks said.Close l = broken_tracks l
hears_tracks (said.Fault code) l = broken_tracks l

pub heard_tracks : (h : Heard) (l : LinkState) → Tracks (is_ready l) (step_rules.heard h l)
unfolding step_rules.heard
heard_tracks h l = tracks_if (is_ready l) (is_deaf (step_rules.ear_of l)) (nothing l) (step_rules.hears h l) (record { told = refl }) (hears_tracks h l)

-- ---- other events

greets_tracks : (url : Option (List ℕ)) (l : LinkState) → Tracks (is_ready l) (open_rules.greets url l)
unfolding open_rules.greets
greets_tracks url l = tracks_if (is_ready l) (open_rules.is_short url) (says (Greeted hello url) l) (broken l) (record { told = refl }) (broken_tracks l)

opened_by : (p : Phase) (url : Option (List ℕ)) (l : LinkState) → l.phase ≡ p → Tracks (is_ready l) (open_rules.opened_in p url l)
opened_by phase.Idle url l e = record { told = refl }
opened_by (phase.Dialing taken) url l e =
    unready l (phase.Dialing taken) _ e refl (λ is. greets_tracks url (open_rules.connected url l))
opened_by other url l e = broken_tracks l

pub opened_tracks : (url : Option (List ℕ)) (l : LinkState) → Tracks (is_ready l) (open_rules.opened url l)
unfolding open_rules.opened
opened_tracks url l = opened_by l.phase url l refl

refused_in : (p : Phase) (l : LinkState) → Tracks (is_ready l) (open_rules.refused_in p l)
refused_in (phase.Dialing taken) l = dropped_tracks l
refused_in other l = record { told = refl }

pub refused_tracks : (l : LinkState) → Tracks (is_ready l) (open_rules.refused l)
unfolding open_rules.refused
refused_tracks l = refused_in l.phase l

closed_in : (p : Phase) (l : LinkState) → Tracks (is_ready l) (open_rules.closed_in p l)
closed_in phase.Idle l = record { told = refl }
closed_in (phase.Dialing taken) l = record { told = refl }
closed_in other l = dropped_tracks l

pub closed_tracks : (l : LinkState) → Tracks (is_ready l) (open_rules.closed l)
unfolding open_rules.closed
closed_tracks l =
    tracks_if (is_ready l) l.closes (nothing (record l { closes = false })) (open_rules.closed_in l.phase l) (record { told = refl }) (closed_in l.phase l)

level_read : (l : LinkState) → Tracks (is_ready l) (time_rules.reads_level l)
unfolding time_rules.reads_level
level_read l =
    tracks_if (is_ready l) (time_rules.is_level_due l.conversation.reading l) (asked (level_request l) (time_rules.with_reading l)) (nothing l)
    (asked_tracks (level_request l) (time_rules.with_reading l)) (record { told = refl })

token_renewed : (l : LinkState) → Tracks (is_ready l) (time_rules.renews_token l)
unfolding time_rules.renews_token
token_renewed l =
    tracks_if (is_ready l) (is_ready l)
    (if time_rules.is_renewal_due l.conversation.renewal l then asked_opening (channel_request (pos 1) l) (time_rules.with_renewal l) else nothing l)
    (nothing l)
    (tracks_if (is_ready l) (time_rules.is_renewal_due l.conversation.renewal l)
    (asked_opening (channel_request (pos 1) l) (time_rules.with_renewal l)) (nothing l)
    (opening_tracks (channel_request (pos 1) l) (time_rules.with_renewal l)) (record { told = refl })) (record { told = refl })

keeps_up : (l : LinkState) → Tracks (is_ready l) (time_rules.keeps_up l)
unfolding time_rules.keeps_up
keeps_up l =
    tracks_if (is_ready l) (is_ready l) (and_then time_rules.renews_token (time_rules.reads_level l)) (nothing l)
    (tracks_then (is_ready l) (time_rules.reads_level l) time_rules.renews_token (level_read l) (token_renewed (time_rules.reads_level l).link)) (record { told = refl })

pub ticked_tracks : (ms : ℕ) (l : LinkState) → Tracks (is_ready l) (time_rules.ticked ms l)
unfolding time_rules.ticked
ticked_tracks ms l =
    tracks_if (is_ready l) (time_rules.is_overdue (time_rules.aged ms l)) (broken (time_rules.aged ms l)) (time_rules.keeps_up (time_rules.aged ms l)) (broken_tracks (time_rules.aged ms l)) (keeps_up (time_rules.aged ms l))

wanted_by : (l : LinkState) (o : Option ReadyState) (mode : Mode) → ready_in l.phase ≡ o
    → Tracks (is_ready l) (step_rules.wants_in o mode l)
wanted_by l None mode e = record { told = refl }
wanted_by l (Some ready) mode e =
    subst (λ b. Tracks b (step_rules.wants_in (Some ready) mode l)) (sym (ready_is l.phase ready e))
    (mode_tracks (with_ready (record ready { wanted = Some mode }) l))

pub wants_tracks : (mode : Mode) (l : LinkState) → Tracks (is_ready l) (step_rules.wants mode l)
unfolding step_rules.wants
wants_tracks mode l = wanted_by l (ready_in l.phase) mode refl

idle_unready : (p : Phase) → is_idle_phase p ≡ true → is_ready_phase p ≡ false
idle_unready phase.Idle e = refl
idle_unready (phase.Ready ready) e = absurd cc
idle_unready other e = refl

dials_test : (b : Bool) (l : LinkState) → (b ≡ true → is_ready l ≡ false)
    → is_ready (if b then with_phase (phase.Dialing false) l else l) ≡ is_ready l
dials_test true l unready_is = sym (unready_is refl)
dials_test false l unready_is = refl

both_true : (a b : Bool) → (a && b) ≡ true → a ≡ true
both_true true b e = refl
both_true false b e = absurd cc

-- a link that may dial is as ready afterwards as before
pub dials_unready : (l : LinkState) → is_ready (open_rules.dials l) ≡ is_ready l
dials_unready l = dials_test (open_rules.may_dial l) l (λ e. idle_unready l.phase (both_true (is_idle l) (l.wait == 0) (both_true (is_idle l && (l.wait == 0)) (not l.unsupported) e)))
