-- A link that may have put a Publish on its connection, or has none, stays so until it begins anew.
use Rattle.std.proofs.Common.{◌≡◌, ℕ, ◌==◌, ◌&&◌, List, [], ◌∷◌, length, min, nat_le, Bool, true, false, Option, Some, None, Result, Ok, Err, if◌then◌else◌, refl, ap, ◌∙◌}
use Rattle.std.specs.Prelude.{pos}
use Rattle.ua_base.specs.Status.{bad_no_subscription, bad_too_many_publish_requests}
use Rattle.ua_base.specs.declared.modes.Mode.{Mode}
use Rattle.ua_structures.specs.declared.body.BodyFault.{BodyFault}
use Rattle.ua_structures.specs.declared.header.ResponseHeader.{ResponseHeader}
use Rattle.ua_structures.specs.Body.{body_at}
use Rattle.ua_channel.specs.declared.heard.Heard.{Heard}
use Rattle.ua_channel.specs.declared.heard.Heard.TheVariants as heard_of
use Rattle.ua_session_msgs.specs.declared.attribute.ReadResponse.{ReadResponse}
use Rattle.ua_session_msgs.specs.declared.channel.OpenSecureChannelResponse.{OpenSecureChannelResponse}
use Rattle.ua_session_msgs.specs.declared.reply.SessionReply.TheVariants as session_reply
use Rattle.ua_sub_msgs.specs.declared.notification.MonitoredItemNotification.{MonitoredItemNotification}
use Rattle.ua_sub_msgs.specs.declared.publish.PublishResponse.{PublishResponse}
use Rattle.ua_sub_msgs.specs.declared.reply.SubReply.TheVariants as sub_reply
use Rattle.ua_services.specs.declared.reply.Reply.{Reply}
use Rattle.ua_services.specs.declared.reply.Reply.TheVariants as reply
use Rattle.ua_services.specs.declared.request.Request.{Request}
use Rattle.ua_services.specs.Families.{replies, written_request}
use Rattle.link_rules.specs.declared.content.Content.{Content}
use Rattle.link_rules.specs.declared.content.Content.TheVariants as content
use Rattle.link_rules.specs.declared.notice.Notice.TheVariants as notice
use Rattle.link_rules.specs.declared.phase.Phase.{Phase}
use Rattle.link_rules.specs.declared.phase.Phase.TheVariants as phase
use Rattle.link_rules.specs.declared.phase.Publishes.{Publishes}
use Rattle.link_rules.specs.declared.phase.ReadyState.{ReadyState}
use Rattle.link_rules.specs.declared.phase.Setting.{Setting}
use Rattle.link_rules.specs.declared.remembered.Monitored.{Monitored}
use Rattle.link_rules.specs.declared.remembered.Remembered.{Remembered}
use Rattle.link_rules.specs.State.{LinkState, forgotten, is_ready, ready_in, with_phase, with_ready}
use Rattle.link_rules.specs.Said.{LinkDid, Asks, Opens, and_then, nothing, tells}
use Rattle.link_rules.specs.Closing.{broken, dropped}
use Rattle.link_rules.specs.Asking.{asked, asked_opening, is_answer, is_good, is_reply_to, next_request, numbered}
use Rattle.link_rules.specs.Requests.{channel_request, level_request}
use Rattle.link_rules.specs.Messages.{acknowledged, all_taken, awaits, data_taken, kept_alive, newest}
use Rattle.link_rules.specs.Numbers.{is_jump, is_next}
use Rattle.link_rules.specs.Publishing as rules
use Rattle.link_rules.specs.Ready as ready_rules
use Rattle.link_rules.specs.Subscribing as sub_rules
use Rattle.link_rules.specs.Opening as open_rules
use Rattle.link_rules.specs.Time as time_rules
use Rattle.link_rules.specs.Step as step_rules

abbrev pub is_late : Phase → Bool
is_late phase.Hello = false
is_late phase.Opening = false
is_late phase.Creating = false
is_late phase.Activating = false
is_late phase.Probing = false
is_late phase.Transferring = false
is_late (phase.Republishing wanted) = false
is_late other = true

abbrev pub IsLate : LinkState → Type 0
IsLate l = is_late l.phase ≡ true

late_if : (b : Bool) (one other : LinkDid) → IsLate one.link → IsLate other.link → IsLate (if b then one else other).link
late_if true one other h rest = h
late_if false one other h rest = rest

pub broken_late : (l : LinkState) → IsLate (broken l).link
unfolding broken
broken_late l = refl

pub dropped_late : (l : LinkState) → IsLate (dropped l).link
unfolding dropped
dropped_late l = refl

asked_late : (r : Request) (l : LinkState) → IsLate l → IsLate (asked r l).link
unfolding asked
asked_late r l h =
    late_if (nat_le (length (written_request r)) l.conversation.limit) (numbered (Asks (next_request l) r) l) (broken l) h (broken_late l)

opening_late : (r : Request) (l : LinkState) → IsLate l → IsLate (asked_opening r l).link
unfolding asked_opening
opening_late r l h =
    late_if (nat_le (length (written_request r)) (min l.conversation.limit 4096)) (numbered (Opens (next_request l) r) l) (broken l) h
    (broken_late l)

-- ---- what is done as soon as it can

publishes_by : (o : Option ReadyState) (r : Option Remembered) (l : LinkState) → IsLate l → IsLate (rules.publishes_in o r l).link
unfolding rules.published
publishes_by None r l h = h
publishes_by (Some ready) None l h = h
publishes_by (Some ready) (Some remembered) l h =
    late_if (rules.has_room ready.publishes) (rules.published ready remembered l) (nothing l)
    (asked_late _ (rules.with_publish ready l) refl) h

publishes_late : (l : LinkState) → IsLate l → IsLate (rules.publishes l).link
unfolding rules.publishes
publishes_late l h = publishes_by (ready_in l.phase) l.remembered l h

fills_late : (l : LinkState) → IsLate l → IsLate (rules.fills l).link
unfolding rules.fills
fills_late l h = publishes_late (rules.publishes l).link (publishes_late l h)

sent_late : (mode : Mode) (l : LinkState) → IsLate l → IsLate (rules.tells_sent mode l).link
unfolding rules.tells_sent
sent_late mode l h = late_if (is_ready l) (tells (notice.Sent mode ∷ []) l) (nothing l) h h

sets_late : (mode : Mode) (ready : ReadyState) (remembered : Remembered) (l : LinkState) → IsLate (rules.sets mode ready remembered l).link
unfolding rules.sets
sets_late mode ready remembered l = sent_late mode _ (asked_late _ (rules.with_setting mode ready l) refl)

sets_if_late : (mode : Option Mode) (ready : ReadyState) (r : Option Remembered) (l : LinkState) → IsLate l → IsLate (rules.sets_if mode ready r l).link
sets_if_late None ready r l h = h
sets_if_late (Some mode) ready None l h = h
sets_if_late (Some mode) ready (Some remembered) l h = sets_late mode ready remembered l

sets_by : (o : Option ReadyState) (l : LinkState) → IsLate l → IsLate (rules.sets_in o l).link
sets_by None l h = h
sets_by (Some ready) l h = sets_if_late (rules.mode_due ready) ready l.remembered l h

sets_mode_late : (l : LinkState) → IsLate l → IsLate (rules.sets_mode l).link
unfolding rules.sets_mode
sets_mode_late l h = sets_by (ready_in l.phase) l h

pub enters_late : (confirmed : Option Mode) (l : LinkState) → IsLate (rules.enters_ready confirmed l).link
unfolding rules.enters_ready
enters_late confirmed l = fills_late (with_phase (phase.Ready (rules.new_ready confirmed)) l) refl

pub subscribes_late : (l : LinkState) → IsLate (rules.subscribes l).link
unfolding rules.subscribes
subscribes_late l = asked_late _ (with_phase phase.Subscribing (forgotten l)) refl

-- ---- messages of the subscription

pub alive_phase : (number : ℕ) (r : Remembered) (l : LinkState) → (kept_alive number r l).link.phase ≡ l.phase
unfolding kept_alive
alive_phase number r l = by_test (is_jump r.next number)
  where
    by_test : (b : Bool) → (if b then tells (notice.Jump ∷ []) (awaits number r l) else nothing l).link.phase ≡ l.phase
    by_test true = refl
    by_test false = refl

pub data_phase : (number : ℕ) (values : List MonitoredItemNotification) (r : Remembered) (l : LinkState) → (data_taken number values r l).link.phase ≡ l.phase
unfolding data_taken
data_phase number values r l = by_tests (is_next r.next number) (is_jump r.next number)
  where
    by_tests : (a b : Bool) → (if a then tells (all_taken l.monitored values) (newest number r l)
        else if b then tells (notice.Jump ∷ all_taken l.monitored values) (newest number r l)
        else nothing (acknowledged number l)).link.phase ≡ l.phase
    by_tests true b = refl
    by_tests false true = refl
    by_tests false false = refl

restarts_late : (l : LinkState) → IsLate (ready_rules.restarts l).link
unfolding ready_rules.restarts
restarts_late l = subscribes_late l

brings_late : (c : Content) (number : ℕ) (r : Remembered) (l : LinkState) → IsLate l → IsLate (ready_rules.brings c number r l).link
unfolding ready_rules.brings
brings_late content.Alive number r l h = fills_late (kept_alive number r l).link (ap is_late (alive_phase number r l) ∙ h)
brings_late content.Ended number r l h = restarts_late l
brings_late (content.Values values) number r l h = fills_late (data_taken number values r l).link (ap is_late (data_phase number values r l) ∙ h)
brings_late content.Unread number r l h = broken_late l

-- ---- replies while it is ready

published_by : (o : Option Publishes) (remembered : Option Remembered) (r : PublishResponse) (ready : ReadyState) (l : LinkState)
    → IsLate (ready_rules.publish_replied_by o remembered r ready l).link
unfolding ready_rules.publish_replied_by
published_by None remembered r ready l = broken_late l
published_by (Some left) None r ready l = broken_late l
published_by (Some left) (Some remembered) r ready l =
    late_if (is_good r.response_header.service_result && (r.subscription_id == remembered.id))
    (ready_rules.message_brings r.notification_message remembered (ready_rules.heard_of_it left ready l)) (broken l)
    (brings_late _ _ remembered (ready_rules.heard_of_it left ready l) refl) (broken_late l)

publish_late : (r : PublishResponse) (ready : ReadyState) (l : LinkState) → IsLate (ready_rules.publish_replied r ready l).link
unfolding ready_rules.publish_replied
publish_late r ready l = published_by _ l.remembered r ready l

refused_by : (o : Option Publishes) (code : ℕ) (ready : ReadyState) (l : LinkState) → IsLate (ready_rules.publish_refused_by o code ready l).link
refused_by None code ready l = broken_late l
refused_by (Some left) code ready l =
    late_if (code == bad_too_many_publish_requests) (nothing (with_ready (record ready { publishes = left }) l))
    (if code == bad_no_subscription then ready_rules.restarts l else broken l) refl
    (late_if (code == bad_no_subscription) (ready_rules.restarts l) (broken l) (restarts_late l) (broken_late l))

refused_late : (h : ResponseHeader) (ready : ReadyState) (l : LinkState) → IsLate (ready_rules.publish_refused h ready l).link
unfolding ready_rules.publish_refused
refused_late h ready l = refused_by _ h.service_result ready l

leaves_late : (level : ℕ) (l : LinkState) → IsLate l → IsLate (ready_rules.leaves_low level l).link
unfolding ready_rules.leaves_low
leaves_late level l h = late_if (ready_rules.is_left level l) (broken l) (nothing l) (broken_late l) h

told_late : (level : Option ℕ) (l : LinkState) → IsLate l → IsLate (ready_rules.level_told level l).link
unfolding ready_rules.level_told
told_late None l h = broken_late l
told_late (Some level) l h = leaves_late level (ready_rules.no_reading l) h

level_late : (r : ReadResponse) (l : LinkState) → IsLate l → IsLate (ready_rules.level_replied r l).link
unfolding ready_rules.level_replied
level_late r l h =
    late_if (ready_rules.is_answer_to l.conversation.reading r.response_header) (ready_rules.level_told (ready_rules.one_level r.results) l)
    (broken l) (told_late (ready_rules.one_level r.results) l h) (broken_late l)

confirms_late : (setting : Setting) (ready : ReadyState) (l : LinkState) → IsLate (ready_rules.confirms setting ready l).link
unfolding ready_rules.confirms
confirms_late setting ready l =
    sets_mode_late (with_ready (record ready { setting = None; confirmed = Some setting.mode }) l) refl

mode_by : (setting : Option Setting) (h : ResponseHeader) (ready : ReadyState) (l : LinkState) → IsLate (ready_rules.mode_replied_by setting h ready l).link
mode_by None h ready l = broken_late l
mode_by (Some setting) h ready l =
    late_if (is_reply_to setting.asked.handle h) (ready_rules.confirms setting ready l) (broken l) (confirms_late setting ready l) (broken_late l)

ready_late : (r : Reply) (ready : ReadyState) (l : LinkState) → IsLate l → IsLate (ready_rules.in_ready r ready l).link
unfolding ready_rules.in_ready ready_rules.mode_replied
ready_late (reply.Session (session_reply.ServiceFault h)) ready l late = refused_late h ready l
ready_late (reply.Session (session_reply.Read r)) ready l late = level_late r l late
ready_late (reply.Subscription (sub_reply.Publish r)) ready l late = publish_late r ready l
ready_late (reply.Subscription (sub_reply.SetMonitoringMode r)) ready l late = mode_by ready.setting r.response_header ready l
ready_late other ready l late = broken_late l

-- ---- replies while its subscription is made

subscribed_late : (id : ℕ) (l : LinkState) → IsLate (sub_rules.subscribed id l).link
unfolding sub_rules.subscribed sub_rules.adds_items
subscribed_late id l = asked_late _ (with_phase phase.Adding (sub_rules.made id l)) refl

subscribing_late : (r : Reply) (l : LinkState) → IsLate (sub_rules.in_subscribing r l).link
unfolding sub_rules.in_subscribing
subscribing_late (reply.Subscription (sub_reply.CreateSubscription r)) l =
    late_if (is_answer r.response_header l) (sub_rules.subscribed r.subscription_id l) (broken l) (subscribed_late r.subscription_id l) (broken_late l)
subscribing_late other l = broken_late l

added_late : (monitored : List Monitored) (l : LinkState) → IsLate (sub_rules.added monitored l).link
unfolding sub_rules.added
added_late [] l = broken_late l
added_late (first ∷ more) l = enters_late (Some l.config.rest) (record l { monitored = first ∷ more })

adding_late : (r : Reply) (l : LinkState) → IsLate (sub_rules.in_adding r l).link
unfolding sub_rules.in_adding
adding_late (reply.Subscription (sub_reply.CreateMonitoredItems r)) l =
    late_if (is_answer r.response_header l) (sub_rules.added (sub_rules.monitored_of l.config.items r.results) l) (broken l)
    (added_late (sub_rules.monitored_of l.config.items r.results) l) (broken_late l)
adding_late other l = broken_late l

replied_late : (p : Phase) (r : Reply) (l : LinkState) → is_late p ≡ true → IsLate l → IsLate (step_rules.replied_in p r l).link
replied_late phase.Idle r l is h = broken_late l
replied_late (phase.Dialing taken) r l is h = broken_late l
replied_late phase.Hello r l is h = broken_late l
replied_late phase.Opening r l is h = broken_late l
replied_late phase.Creating r l is h = absurd cc
replied_late phase.Activating r l is h = absurd cc
replied_late phase.Probing r l is h = absurd cc
replied_late phase.Transferring r l is h = absurd cc
replied_late (phase.Republishing wanted) r l is h = absurd cc
replied_late phase.Subscribing r l is h = subscribing_late r l
replied_late phase.Adding r l is h = adding_late r l
replied_late (phase.Ready ready) r l is h = ready_late r ready l h

read_late : (result : Result Reply BodyFault) (l : LinkState) → IsLate l → IsLate (step_rules.replied_by result l).link
read_late (Ok r) l h = replied_late l.phase r l h h
read_late (Err fault) l h = broken_late l

-- ---- whatever is heard

renews_late : (r : OpenSecureChannelResponse) (l : LinkState) → IsLate l
    → IsLate (if ready_rules.is_answer_to l.conversation.renewal r.response_header then
    open_rules.renews r.security_token (open_rules.heard_once l) else broken l).link
unfolding open_rules.renews
renews_late r l h =
    late_if (ready_rules.is_answer_to l.conversation.renewal r.response_header) (open_rules.renews r.security_token (open_rules.heard_once l))
    (broken l) h (broken_late l)

channel_late : (p : Phase) (r : OpenSecureChannelResponse) (l : LinkState) → is_late p ≡ true → IsLate l → IsLate (open_rules.channel_replied_in p r l).link
unfolding open_rules.channel_replied_in
channel_late phase.Opening r l is h = absurd cc
channel_late phase.Idle r l is h = renews_late r l h
channel_late other r l is h = renews_late r l h

opening_reply_late : (r : Reply) (l : LinkState) → IsLate l → IsLate (open_rules.in_opening r l).link
unfolding open_rules.in_opening
opening_reply_late (reply.Session (session_reply.OpenSecureChannel r)) l h = channel_late l.phase r l h h
opening_reply_late other l h = broken_late l

read_opening_late : (result : Result Reply BodyFault) (l : LinkState) → IsLate l → IsLate (step_rules.opening_by result l).link
read_opening_late (Ok r) l h = opening_reply_late r l h
read_opening_late (Err fault) l h = broken_late l

greeted_late : (p : Phase) (body : List ℕ) (l : LinkState) → is_late p ≡ true → IsLate (open_rules.greeted_in p body l).link
greeted_late phase.Hello body l is = absurd cc
greeted_late phase.Idle body l is = broken_late l
greeted_late other body l is = broken_late l

pub hears_late : (h : Heard) (l : LinkState) → IsLate l → IsLate (step_rules.hears h l).link
unfolding open_rules.greeted step_rules.opening_replied step_rules.replied
hears_late (heard_of.Greeting body) l h = greeted_late l.phase body l h
hears_late (heard_of.Opening channel follows request body) l h =
    late_if follows (step_rules.opening_by (body_at replies body) l) (broken l) (read_opening_late (body_at replies body) l h) (broken_late l)
hears_late (heard_of.Message request body) l h = read_late (body_at replies body) l h
hears_late heard_of.Close l h = broken_late l
hears_late (heard_of.Fault code) l h = broken_late l

-- ---- other events

reads_late : (l : LinkState) → IsLate l → IsLate (time_rules.reads_level l).link
unfolding time_rules.reads_level
reads_late l h =
    late_if (time_rules.is_level_due l.conversation.reading l) (asked (level_request l) (time_rules.with_reading l)) (nothing l)
    (asked_late (level_request l) (time_rules.with_reading l) h) h

token_late : (l : LinkState) → IsLate l → IsLate (time_rules.renews_token l).link
unfolding time_rules.renews_token
token_late l h =
    late_if (is_ready l) (if time_rules.is_renewal_due l.conversation.renewal l
    then asked_opening (channel_request (pos 1) l) (time_rules.with_renewal l) else nothing l) (nothing l)
    (late_if (time_rules.is_renewal_due l.conversation.renewal l) (asked_opening (channel_request (pos 1) l) (time_rules.with_renewal l)) (nothing l)
    (opening_late (channel_request (pos 1) l) (time_rules.with_renewal l) h) h) h

keeps_late : (l : LinkState) → IsLate l → IsLate (time_rules.keeps_up l).link
unfolding time_rules.keeps_up
keeps_late l h =
    late_if (is_ready l) (and_then time_rules.renews_token (time_rules.reads_level l)) (nothing l)
    (token_late (time_rules.reads_level l).link (reads_late l h)) h

pub ticked_late : (ms : ℕ) (l : LinkState) → IsLate l → IsLate (time_rules.ticked ms l).link
unfolding time_rules.ticked
ticked_late ms l h =
    late_if (time_rules.is_overdue (time_rules.aged ms l)) (broken (time_rules.aged ms l)) (time_rules.keeps_up (time_rules.aged ms l))
    (broken_late (time_rules.aged ms l)) (keeps_late (time_rules.aged ms l) h)

wants_by : (o : Option ReadyState) (mode : Mode) (l : LinkState) → IsLate l → IsLate (step_rules.wants_in o mode l).link
wants_by None mode l h = h
wants_by (Some ready) mode l h = sets_mode_late (with_ready (record ready { wanted = Some mode }) l) refl

pub wants_late : (mode : Mode) (l : LinkState) → IsLate l → IsLate (step_rules.wants mode l).link
unfolding step_rules.wants
wants_late mode l h = wants_by (ready_in l.phase) mode l h
