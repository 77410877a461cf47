-- Rules by which a link puts no request for a subscription.
use Rattle.std.proofs.Common.{◌≡◌, ℕ, ◌==◌, ◌&&◌, List, [], ◌∷◌, ◌++◌, length, min, nat_le, Bool, true, false, Option, Some, None, Result, Ok, Err, if◌then◌else◌, refl, sym, subst}
use Rattle.std.specs.Prelude.{pos}
use Rattle.ua_base.specs.Status.{bad_no_subscription, bad_too_many_publish_requests}
use Rattle.ua_base.specs.declared.modes.Mode.{Mode}
use Rattle.ua_values.specs.Reading.{Fault}
use Rattle.ua_structures.specs.declared.body.BodyFault.{BodyFault}
use Rattle.ua_structures.specs.declared.header.ResponseHeader.{ResponseHeader}
use Rattle.ua_chunks.specs.declared.greeting.Greeting.{Greeting}
use Rattle.ua_session_msgs.specs.declared.attribute.ReadResponse.{ReadResponse}
use Rattle.ua_session_msgs.specs.declared.channel.ChannelSecurityToken.{ChannelSecurityToken}
use Rattle.ua_session_msgs.specs.declared.channel.OpenSecureChannelResponse.{OpenSecureChannelResponse}
use Rattle.ua_session_msgs.specs.declared.reply.SessionReply.TheVariants as session_reply
use Rattle.ua_sub_msgs.specs.declared.notification.MonitoredItemNotification.{MonitoredItemNotification}
use Rattle.ua_sub_msgs.specs.declared.publish.PublishResponse.{PublishResponse}
use Rattle.ua_services.specs.declared.reply.Reply.{Reply}
use Rattle.ua_services.specs.declared.reply.Reply.TheVariants as reply
use Rattle.ua_services.specs.declared.request.Request.{Request}
use Rattle.ua_services.specs.Families.{written_request}
use Rattle.link_rules.specs.declared.content.Content.{Content}
use Rattle.link_rules.specs.declared.content.Content.TheVariants as content
use Rattle.link_rules.specs.declared.notice.Notice.TheVariants as notice
use Rattle.link_rules.specs.declared.phase.Phase.{Phase}
use Rattle.link_rules.specs.declared.phase.Phase.TheVariants as phase
use Rattle.link_rules.specs.declared.phase.Publishes.{Publishes}
use Rattle.link_rules.specs.declared.phase.ReadyState.{ReadyState}
use Rattle.link_rules.specs.declared.remembered.Remembered.{Remembered}
use Rattle.link_rules.specs.State.{LinkState, forgotten, is_ready, ready_in, with_phase, with_ready}
use Rattle.link_rules.specs.Said.{LinkDid, Said, Asks, Greeted, Limited, Opens, and_then, nothing, says, tells}
use Rattle.link_rules.specs.Closing.{broken, dropped}
use Rattle.link_rules.specs.Asking.{asked, asked_opening, is_answer, is_good, next_request, numbered}
use Rattle.link_rules.specs.Requests.{activation_request, channel_request, hello, level_request, probe_request, publish_request, session_request_of, subscription_request}
use Rattle.link_rules.specs.Messages.{acknowledged, all_taken, awaits, data_taken, kept_alive, newest}
use Rattle.link_rules.specs.Numbers.{is_jump, is_next}
use Rattle.link_rules.specs.Publishing as rules
use Rattle.link_rules.specs.Ready as ready_rules
use Rattle.link_rules.specs.Starting as start_rules
use Rattle.link_rules.specs.Opening as open_rules
use Rattle.link_rules.specs.Time as time_rules
use Rattle.link_rules.specs.Step as step_rules
use Rattle.link_takings.specs.Naming.{AllOfRemembered, IsOfRemembered, ids_in, ids_told}

-- nothing that is said names a subscription
abbrev pub AreNameless : List Said → Type 0
AreNameless [] = Unit {0}
AreNameless (said ∷ more) = (ids_told said.told ≡ None) × AreNameless more

abbrev pub IsNameless : LinkDid → Type 0
IsNameless did = AreNameless did.said

pub nameless_of : (said : List Said) (o : Option Remembered) → AreNameless said → AllOfRemembered said o
nameless_of [] o h = tt
nameless_of (said ∷ more) o h = (subst (λ x. IsOfRemembered x o) (sym h.0) tt, nameless_of more o h.1)

pub nameless_join : (one other : List Said) → AreNameless one → AreNameless other → AreNameless (one ++ other)
nameless_join [] other h rest = rest
nameless_join (said ∷ one) other h rest = (h.0, nameless_join one other h.1 rest)

pub nameless_if : (b : Bool) (one other : LinkDid) → IsNameless one → IsNameless other → IsNameless (if b then one else other)
nameless_if true one other h rest = h
nameless_if false one other h rest = rest

pub broken_nameless : (l : LinkState) → IsNameless (broken l)
unfolding broken
broken_nameless l = tt

pub dropped_nameless : (l : LinkState) → IsNameless (dropped l)
unfolding dropped
dropped_nameless l = tt

asked_nameless : (r : Request) (l : LinkState) → ids_in r ≡ None → IsNameless (asked r l)
unfolding asked
asked_nameless r l none =
    nameless_if (nat_le (length (written_request r)) l.conversation.limit) (numbered (Asks (next_request l) r) l) (broken l) (none, tt)
    (broken_nameless l)

opening_nameless : (r : Request) (l : LinkState) → IsNameless (asked_opening r l)
unfolding asked_opening
opening_nameless r l =
    nameless_if (nat_le (length (written_request r)) (min l.conversation.limit 4096)) (numbered (Opens (next_request l) r) l) (broken l)
    (refl, tt) (broken_nameless l)

-- ---- Publishes, and a new subscription

published_nameless : (ready : ReadyState) (remembered : Remembered) (l : LinkState) → IsNameless (rules.published ready remembered l)
unfolding rules.published publish_request
published_nameless ready remembered l = asked_nameless (publish_request remembered.id l) (rules.with_publish ready l) refl

publishes_by : (o : Option ReadyState) (r : Option Remembered) (l : LinkState) → IsNameless (rules.publishes_in o r l)
publishes_by None r l = tt
publishes_by (Some ready) None l = tt
publishes_by (Some ready) (Some remembered) l =
    nameless_if (rules.has_room ready.publishes) (rules.published ready remembered l) (nothing l) (published_nameless ready remembered l) tt

publishes_nameless : (l : LinkState) → IsNameless (rules.publishes l)
unfolding rules.publishes
publishes_nameless l = publishes_by (ready_in l.phase) l.remembered l

fills_nameless : (l : LinkState) → IsNameless (rules.fills l)
unfolding rules.fills
fills_nameless l =
    nameless_join (rules.publishes l).said (rules.publishes (rules.publishes l).link).said (publishes_nameless l)
    (publishes_nameless (rules.publishes l).link)

pub enters_nameless : (confirmed : Option Mode) (l : LinkState) → IsNameless (rules.enters_ready confirmed l)
unfolding rules.enters_ready
enters_nameless confirmed l = fills_nameless (with_phase (phase.Ready (rules.new_ready confirmed)) l)

pub subscribes_nameless : (l : LinkState) → IsNameless (rules.subscribes l)
unfolding rules.subscribes subscription_request
subscribes_nameless l = asked_nameless (subscription_request l) (with_phase phase.Subscribing (forgotten l)) refl

pub restarts_nameless : (l : LinkState) → IsNameless (ready_rules.restarts l)
unfolding ready_rules.restarts
restarts_nameless l = subscribes_nameless l

-- ---- messages of the subscription

pub alive_nameless : (number : ℕ) (r : Remembered) (l : LinkState) → IsNameless (kept_alive number r l)
unfolding kept_alive
alive_nameless number r l = nameless_if (is_jump r.next number) (tells (notice.Jump ∷ []) (awaits number r l)) (nothing l) tt tt

pub data_nameless : (number : ℕ) (values : List MonitoredItemNotification) (r : Remembered) (l : LinkState) → IsNameless (data_taken number values r l)
unfolding data_taken
data_nameless number values r l =
    nameless_if (is_next r.next number) (tells (all_taken l.monitored values) (newest number r l))
    (if is_jump r.next number then tells (notice.Jump ∷ all_taken l.monitored values) (newest number r l) else nothing (acknowledged number l))
    tt (nameless_if (is_jump r.next number) (tells (notice.Jump ∷ all_taken l.monitored values) (newest number r l)) (nothing (acknowledged number l)) tt tt)

fills_then : (did : LinkDid) → IsNameless did → IsNameless (and_then rules.fills did)
fills_then did h = nameless_join did.said (rules.fills did.link).said h (fills_nameless did.link)

brings_nameless : (c : Content) (number : ℕ) (r : Remembered) (l : LinkState) → IsNameless (ready_rules.brings c number r l)
unfolding ready_rules.brings
brings_nameless content.Alive number r l = fills_then (kept_alive number r l) (alive_nameless number r l)
brings_nameless content.Ended number r l = restarts_nameless l
brings_nameless (content.Values values) number r l = fills_then (data_taken number values r l) (data_nameless number values r l)
brings_nameless content.Unread number r l = broken_nameless l

published_by : (o : Option Publishes) (remembered : Option Remembered) (r : PublishResponse) (ready : ReadyState) (l : LinkState)
    → IsNameless (ready_rules.publish_replied_by o remembered r ready l)
unfolding ready_rules.publish_replied_by
published_by None remembered r ready l = broken_nameless l
published_by (Some left) None r ready l = broken_nameless l
published_by (Some left) (Some remembered) r ready l =
    nameless_if (is_good r.response_header.service_result && (r.subscription_id == remembered.id))
    (ready_rules.message_brings r.notification_message remembered (ready_rules.heard_of_it left ready l)) (broken l)
    (brings_nameless _ _ remembered (ready_rules.heard_of_it left ready l)) (broken_nameless l)

pub publish_nameless : (r : PublishResponse) (ready : ReadyState) (l : LinkState) → IsNameless (ready_rules.publish_replied r ready l)
unfolding ready_rules.publish_replied
publish_nameless r ready l = published_by _ l.remembered r ready l

refused_by : (o : Option Publishes) (code : ℕ) (ready : ReadyState) (l : LinkState) → IsNameless (ready_rules.publish_refused_by o code ready l)
refused_by None code ready l = broken_nameless l
refused_by (Some left) code ready l =
    nameless_if (code == bad_too_many_publish_requests) (nothing (with_ready (record ready { publishes = left }) l))
    (if code == bad_no_subscription then ready_rules.restarts l else broken l) tt
    (nameless_if (code == bad_no_subscription) (ready_rules.restarts l) (broken l) (restarts_nameless l) (broken_nameless l))

pub refused_nameless : (h : ResponseHeader) (ready : ReadyState) (l : LinkState) → IsNameless (ready_rules.publish_refused h ready l)
unfolding ready_rules.publish_refused
refused_nameless h ready l = refused_by _ h.service_result ready l

-- ---- levels

leaves_nameless : (level : ℕ) (l : LinkState) → IsNameless (ready_rules.leaves_low level l)
unfolding ready_rules.leaves_low
leaves_nameless level l = nameless_if (ready_rules.is_left level l) (broken l) (nothing l) (broken_nameless l) tt

told_nameless : (level : Option ℕ) (l : LinkState) → IsNameless (ready_rules.level_told level l)
unfolding ready_rules.level_told
told_nameless None l = broken_nameless l
told_nameless (Some level) l = leaves_nameless level (ready_rules.no_reading l)

pub level_nameless : (r : ReadResponse) (l : LinkState) → IsNameless (ready_rules.level_replied r l)
unfolding ready_rules.level_replied
level_nameless r l =
    nameless_if (ready_rules.is_answer_to l.conversation.reading r.response_header) (ready_rules.level_told (ready_rules.one_level r.results) l)
    (broken l) (told_nameless (ready_rules.one_level r.results) l) (broken_nameless l)

-- ---- the connection and the session

pub greets_nameless : (url : Option (List ℕ)) (l : LinkState) → IsNameless (open_rules.greets url l)
unfolding open_rules.greets
greets_nameless url l = nameless_if (open_rules.is_short url) (says (Greeted hello url) l) (broken l) (refl, tt) (broken_nameless l)

pub opened_nameless : (p : Phase) (url : Option (List ℕ)) (l : LinkState) → IsNameless (open_rules.opened_in p url l)
opened_nameless phase.Idle url l = tt
opened_nameless (phase.Dialing taken) url l = greets_nameless url (open_rules.connected url l)
opened_nameless other url l = broken_nameless l

pub refused_in_nameless : (p : Phase) (l : LinkState) → IsNameless (open_rules.refused_in p l)
refused_in_nameless (phase.Dialing taken) l = dropped_nameless l
refused_in_nameless phase.Idle l = tt
refused_in_nameless other l = tt

pub closed_in_nameless : (p : Phase) (l : LinkState) → IsNameless (open_rules.closed_in p l)
closed_in_nameless phase.Idle l = tt
closed_in_nameless (phase.Dialing taken) l = tt
closed_in_nameless other l = dropped_nameless l

acknowledged_nameless : (g : Greeting) (l : LinkState) → IsNameless (open_rules.acknowledged_by g l)
unfolding open_rules.acknowledged_by open_rules.opens_channel
acknowledged_nameless g l =
    let next : LinkState = open_rules.with_limit (open_rules.limit_named g) l in
    nameless_if (open_rules.is_enough g) (and_then open_rules.opens_channel (says (Limited (open_rules.limits_of g)) next)) (broken l)
    (refl, opening_nameless (channel_request (pos 0) next) (with_phase phase.Opening next)) (broken_nameless l)

greeting_nameless : (result : Result Greeting Fault) (l : LinkState) → IsNameless (open_rules.greeted_by result l)
unfolding open_rules.greeted_by
greeting_nameless (Ok g) l = acknowledged_nameless g l
greeting_nameless (Err fault) l = broken_nameless l

pub greeted_nameless : (p : Phase) (body : List ℕ) (l : LinkState) → IsNameless (open_rules.greeted_in p body l)
greeted_nameless phase.Hello body l = greeting_nameless _ l
greeted_nameless phase.Idle body l = broken_nameless l
greeted_nameless other body l = broken_nameless l

creates_nameless : (l : LinkState) → IsNameless (open_rules.creates_session l)
unfolding open_rules.creates_session session_request_of
creates_nameless l = asked_nameless (session_request_of l) (with_phase phase.Creating l) refl

renews_nameless : (t : ChannelSecurityToken) (l : LinkState) → IsNameless (open_rules.renews t l)
unfolding open_rules.renews
renews_nameless t l = (refl, tt)

renewed_nameless : (r : OpenSecureChannelResponse) (l : LinkState)
    → IsNameless (if ready_rules.is_answer_to l.conversation.renewal r.response_header then
    open_rules.renews r.security_token (open_rules.heard_once l) else broken l)
renewed_nameless r l =
    nameless_if (ready_rules.is_answer_to l.conversation.renewal r.response_header)
    (open_rules.renews r.security_token (open_rules.heard_once l)) (broken l)
    (renews_nameless r.security_token (open_rules.heard_once l)) (broken_nameless l)

channel_nameless : (p : Phase) (r : OpenSecureChannelResponse) (l : LinkState) → IsNameless (open_rules.channel_replied_in p r l)
unfolding open_rules.channel_replied_in
channel_nameless phase.Opening r l =
    nameless_if (is_answer r.response_header l) (and_then open_rules.creates_session (open_rules.renews r.security_token l)) (broken l)
    (nameless_join (open_rules.renews r.security_token l).said _ (renews_nameless r.security_token l)
    (creates_nameless (open_rules.renews r.security_token l).link)) (broken_nameless l)
channel_nameless phase.Idle r l = renewed_nameless r l
channel_nameless other r l = renewed_nameless r l

opening_reply_nameless : (r : Reply) (l : LinkState) → IsNameless (open_rules.in_opening r l)
unfolding open_rules.in_opening
opening_reply_nameless (reply.Session (session_reply.OpenSecureChannel r)) l = channel_nameless l.phase r l
opening_reply_nameless other l = broken_nameless l

pub read_opening_nameless : (result : Result Reply BodyFault) (l : LinkState) → IsNameless (step_rules.opening_by result l)
read_opening_nameless (Ok r) l = opening_reply_nameless r l
read_opening_nameless (Err fault) l = broken_nameless l

activates_nameless : (l : LinkState) → IsNameless (start_rules.activates l)
unfolding start_rules.activates activation_request
activates_nameless l = asked_nameless (activation_request l) (with_phase phase.Activating l) refl

pub creating_nameless : (r : Reply) (l : LinkState) → IsNameless (start_rules.in_creating r l)
unfolding start_rules.in_creating
creating_nameless (reply.Session (session_reply.CreateSession r)) l =
    nameless_if (is_answer r.response_header l) (start_rules.activates (record l { session = r.authentication_token })) (broken l)
    (activates_nameless (record l { session = r.authentication_token })) (broken_nameless l)
creating_nameless other l = broken_nameless l

probes_nameless : (l : LinkState) → IsNameless (start_rules.probes l)
unfolding start_rules.probes probe_request
probes_nameless l = asked_nameless (probe_request l) (with_phase phase.Probing (start_rules.has_read l)) refl

pub activating_nameless : (r : Reply) (l : LinkState) → IsNameless (start_rules.in_activating r l)
unfolding start_rules.in_activating
activating_nameless (reply.Session (session_reply.ActivateSession r)) l =
    nameless_if (is_answer r.response_header l) (start_rules.probes l) (broken l) (probes_nameless l) (broken_nameless l)
activating_nameless other l = broken_nameless l

pub unsupported_nameless : (l : LinkState) → IsNameless (start_rules.unsupported l)
unfolding start_rules.unsupported
unsupported_nameless l = broken_nameless (record l { unsupported = true })

-- ---- time

reads_nameless : (l : LinkState) → IsNameless (time_rules.reads_level l)
unfolding time_rules.reads_level level_request
reads_nameless l =
    nameless_if (time_rules.is_level_due l.conversation.reading l) (asked (level_request l) (time_rules.with_reading l)) (nothing l)
    (asked_nameless (level_request l) (time_rules.with_reading l) refl) tt

token_nameless : (l : LinkState) → IsNameless (time_rules.renews_token l)
unfolding time_rules.renews_token
token_nameless l =
    nameless_if (is_ready l) (if time_rules.is_renewal_due l.conversation.renewal l
    then asked_opening (channel_request (pos 1) l) (time_rules.with_renewal l) else nothing l) (nothing l)
    (nameless_if (time_rules.is_renewal_due l.conversation.renewal l) (asked_opening (channel_request (pos 1) l) (time_rules.with_renewal l)) (nothing l)
    (opening_nameless (channel_request (pos 1) l) (time_rules.with_renewal l)) tt) tt

keeps_nameless : (l : LinkState) → IsNameless (time_rules.keeps_up l)
unfolding time_rules.keeps_up
keeps_nameless l =
    nameless_if (is_ready l) (and_then time_rules.renews_token (time_rules.reads_level l)) (nothing l)
    (nameless_join (time_rules.reads_level l).said _ (reads_nameless l) (token_nameless (time_rules.reads_level l).link)) tt

pub ticked_nameless : (ms : ℕ) (l : LinkState) → IsNameless (time_rules.ticked ms l)
unfolding time_rules.ticked
ticked_nameless ms l =
    nameless_if (time_rules.is_overdue (time_rules.aged ms l)) (broken (time_rules.aged ms l)) (time_rules.keeps_up (time_rules.aged ms l))
    (broken_nameless (time_rules.aged ms l)) (keeps_nameless (time_rules.aged ms l))
