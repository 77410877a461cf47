-- What each rule of a link comes to, in moves.
use Rattle.std.proofs.Common.{◌≡◌, ℕ, ℤ, ◌==◌, ◌&&◌, List, [], ◌∷◌, Bool, true, false, Option, Some, None, Result, Ok, Err, if◌then◌else◌, refl, sym, ◌∙◌, ap, subst, inl, nat_le, length}
use Rattle.std.specs.Prelude.{pos}
use Rattle.ua_base.specs.declared.modes.Mode.{Mode}
use Rattle.ua_base.specs.Status.{bad_message_not_available, bad_no_subscription, bad_too_many_publish_requests}
use Rattle.ua_values.specs.Reading.{Fault}
use Rattle.ua_variants.specs.declared.variant.Stamped.{Stamped}
use Rattle.ua_variants.specs.declared.variant.Variant.{Variant}
use Rattle.ua_structures.specs.declared.body.BodyFault.{BodyFault}
use Rattle.ua_structures.specs.declared.header.ResponseHeader.{ResponseHeader}
use Rattle.ua_structures.specs.Body.{body_at}
use Rattle.ua_chunks.specs.declared.greeting.Greeting.{Greeting}
use Rattle.ua_channel.specs.declared.heard.Heard.{Heard}
use Rattle.ua_channel.specs.declared.heard.Heard.TheVariants as said
use Rattle.ua_channel.specs.State.{is_deaf}
use Rattle.ua_session_msgs.specs.declared.attribute.ReadResponse.{ReadResponse}
use Rattle.ua_session_msgs.specs.declared.channel.ChannelSecurityToken.{ChannelSecurityToken}
use Rattle.ua_session_msgs.specs.declared.channel.OpenSecureChannelResponse.{OpenSecureChannelResponse}
use Rattle.ua_session_msgs.specs.declared.reply.SessionReply.TheVariants as session_reply
use Rattle.ua_sub_msgs.specs.declared.notification.NotificationMessage.{NotificationMessage}
use Rattle.ua_sub_msgs.specs.declared.publish.PublishResponse.{PublishResponse}
use Rattle.ua_sub_msgs.specs.declared.reply.SubReply.TheVariants as sub_reply
use Rattle.ua_services.specs.declared.reply.Reply.{Reply}
use Rattle.ua_services.specs.declared.reply.Reply.TheVariants as reply
use Rattle.ua_services.specs.Families.{replies, written_request}
use Rattle.link_rules.specs.declared.content.Content.{Content}
use Rattle.link_rules.specs.declared.content.Content.TheVariants as content
use Rattle.link_rules.specs.declared.conversation.Asked.{Asked}
use Rattle.link_rules.specs.declared.notice.Notice.TheVariants as notice
use Rattle.link_rules.specs.declared.phase.Phase.{Phase}
use Rattle.link_rules.specs.declared.phase.Phase.TheVariants as phase
use Rattle.link_rules.specs.declared.phase.Publishes.{Publishes}
use Rattle.link_rules.specs.declared.phase.ReadyState.{ReadyState}
use Rattle.link_rules.specs.declared.phase.Setting.{Setting}
use Rattle.link_rules.specs.declared.remembered.Monitored.{Monitored}
use Rattle.link_rules.specs.declared.remembered.Remembered.{Remembered}
use Rattle.link_rules.specs.State.{LinkState, forgotten, is_ready, is_ready_phase, ready_in, with_phase, with_ready}
use Rattle.link_rules.specs.Said.{LinkDid, Greeted, Limited, and_then, nothing, says, tells, Asks}
use Rattle.link_rules.specs.Closing.{broken}
use Rattle.link_rules.specs.Asking.{asked, asked_opening, is_answer, is_fault, is_good, is_reply_to, numbered, next_request}
use Rattle.link_rules.specs.Requests.{channel_request, hello, mode_request, subscription_request, transfer_request}
use Rattle.link_rules.specs.Messages.{content_of, data_taken, kept_alive}
use Rattle.link_rules.specs.Publishing.{enters_ready, fills, has_room, mode_due, mode_due_by, new_ready, published, publishes, publishes_in, sets, sets_if, sets_in, sets_mode, subscribes, tells_sent, unless_confirmed, is_mode, with_setting}
use Rattle.link_rules.specs.Ready as ready_rules
use Rattle.link_rules.specs.Subscribing as sub_rules
use Rattle.link_rules.specs.Starting as start_rules
use Rattle.link_rules.specs.Opening as open_rules
use Rattle.link_rules.specs.Time as time_rules
use Rattle.link_rules.specs.Step as step_rules
use Rattle.link_laws.proofs.Moves.{Channel, Session, Activation, Probe, Transfer, Again, Subscription, Items, Publish, Modes, Level, Renewal, Comes, IsFallen, IsSame, IsTurned, Leave, Falls, Ages, Wishes, Greets, Enters, Completes, Loses, Makes, Keeps, Brings, Levels, Probed, Answers, Seeks, Sets, Confirms, face_of, is_begun, is_begun_phase, leave_heard, leave_in, leave_of, leave_read, none, Adds, Calls}
use Rattle.link_laws.proofs.Coming.{asking, begun_unready, broken_falls, by_move, drops, either, falls, falls_from, from_same, idle, if_so, move_then, opening, quiet, then_comes, turned, turned_then, asks_fallen}

-- ---- phases

pub is_ready_at : (l : LinkState) (ready : ReadyState) → l.phase ≡ phase.Ready ready → is_ready l ≡ true
is_ready_at l ready e = ap is_ready_phase e

ready_at : (p : Phase) (ready : ReadyState) → ready_in p ≡ Some ready → p ≡ phase.Ready ready
ready_at (phase.Ready other) ready e = let same : other ≡ ready = cc in ap phase.Ready same
ready_at phase.Idle ready e = absurd cc
ready_at (phase.Dialing taken) ready e = absurd cc
ready_at phase.Hello ready e = absurd cc
ready_at phase.Opening ready e = absurd cc
ready_at phase.Creating ready e = absurd cc
ready_at phase.Activating ready e = absurd cc
ready_at phase.Probing ready e = absurd cc
ready_at phase.Transferring ready e = absurd cc
ready_at (phase.Republishing wanted) ready e = absurd cc
ready_at phase.Subscribing ready e = absurd cc
ready_at phase.Adding ready e = absurd cc

-- ---- as soon as it can

publishes_by : (leave : Leave) (l : LinkState) (o : Option ReadyState) (r : Option Remembered) → ready_in l.phase ≡ o → l.remembered ≡ r
    → Comes leave l (publishes_in o r l)
unfolding published
publishes_by leave l (Some ready) (Some remembered) e is =
    if_so leave (has_room ready.publishes) l (published ready remembered l) (nothing l)
    (λ room. asking leave (Publish ready remembered) l (λ n r. refl) tt (ready_at l.phase ready e, is, room)) (idle leave l)
publishes_by leave l (Some ready) None e is = idle leave l
publishes_by leave l None r e is = idle leave l

publishes_comes : (leave : Leave) (l : LinkState) → Comes leave l (publishes l)
unfolding publishes
publishes_comes leave l = publishes_by leave l (ready_in l.phase) l.remembered refl refl

fills_comes : (leave : Leave) (l : LinkState) → Comes leave l (fills l)
unfolding fills
fills_comes leave l = then_comes leave l publishes (publishes l) (publishes_comes leave l) (publishes_comes none (publishes l).link)

sets_comes : (leave : Leave) (mode : Mode) (ready : ReadyState) (remembered : Remembered) (l : LinkState) → l.phase ≡ phase.Ready ready
    → ready.wanted ≡ Some mode → mode_due ready ≡ Some mode → Comes leave l (sets mode ready remembered l)
unfolding sets asked tells_sent broken
sets_comes leave mode ready remembered l e wants due =
    by_fit (nat_le (length (written_request (mode_request remembered.id mode l))) (with_setting mode ready l).conversation.limit)
  where
    by_fit : (b : Bool) → Comes leave l (and_then (tells_sent mode)
        (if b then numbered (Asks (next_request (with_setting mode ready l)) (mode_request remembered.id mode l)) (with_setting mode ready l)
        else broken (with_setting mode ready l)))
    by_fit true = by_move leave (Sets mode ready remembered.id) l (e, wants, due)
    by_fit false =
        by_move leave (Falls (broken (with_setting mode ready l))) l (asks_fallen leave (Modes mode ready remembered.id) l (e, wants, due))

due_by : (mode other : Mode) (confirmed : Option Mode) (b : Bool) → (if b then None else Some other) ≡ Some mode → Some other ≡ Some mode
due_by mode other confirmed true e = absurd cc
due_by mode other confirmed false e = e

due_of : (mode : Mode) (wanted confirmed : Option Mode) → unless_confirmed wanted confirmed ≡ Some mode → wanted ≡ Some mode
due_of mode None confirmed e = absurd cc
due_of mode (Some other) confirmed e = due_by mode other confirmed (is_mode other confirmed) e

due_is : (setting : Option Setting) (ready : ReadyState) (mode : Mode) → mode_due_by setting ready ≡ Some mode → ready.wanted ≡ Some mode
due_is (Some setting) ready mode e = absurd cc
due_is None ready mode e = due_of mode ready.wanted ready.confirmed e

sets_by : (leave : Leave) (o : Option Mode) (ready : ReadyState) (r : Option Remembered) (l : LinkState) → l.phase ≡ phase.Ready ready
    → mode_due ready ≡ o → Comes leave l (sets_if o ready r l)
sets_by leave (Some mode) ready (Some remembered) l e due =
    sets_comes leave mode ready remembered l e (due_is ready.setting ready mode due) due
sets_by leave (Some mode) ready None l e due = idle leave l
sets_by leave None ready r l e due = idle leave l

mode_by : (leave : Leave) (l : LinkState) (o : Option ReadyState) → ready_in l.phase ≡ o → Comes leave l (sets_in o l)
mode_by leave l (Some ready) e = sets_by leave (mode_due ready) ready l.remembered l (ready_at l.phase ready e) refl
mode_by leave l None e = idle leave l

mode_comes : (leave : Leave) (l : LinkState) → Comes leave l (sets_mode l)
unfolding sets_mode
mode_comes leave l = mode_by leave l (ready_in l.phase) refl

enters_comes : (leave : Leave) (confirmed : Option Mode) (l : LinkState) → is_begun l ≡ true → Comes leave l (enters_ready confirmed l)
unfolding enters_ready
enters_comes leave confirmed l e =
    move_then leave (Enters confirmed) l fills e (fills_comes leave (with_phase (phase.Ready (new_ready confirmed)) l))

subscribes_comes : (leave : Leave) (l : LinkState) → is_begun l ≡ true → Comes leave l (subscribes l)
unfolding subscribes
subscribes_comes leave l e = asking leave Subscription l (λ n r. refl) tt e

-- ---- messages

alive_comes : (leave : Leave) (m : NotificationMessage) (remembered : Remembered) (l : LinkState) → l.remembered ≡ Some remembered
    → leave.brought ≡ Some m → content_of m.notification_data ≡ content.Alive
    → Comes leave l (kept_alive m.sequence_number remembered l)
alive_comes leave m remembered l is brings alive =
    by_move leave (Keeps m.sequence_number remembered) l (m, record { remembers = is; brings = brings; numbers = refl }, alive)

data_comes : (leave : Leave) (m : NotificationMessage) (values : _) (remembered : Remembered) (l : LinkState) → l.remembered ≡ Some remembered
    → leave.brought ≡ Some m → content_of m.notification_data ≡ content.Values values
    → Comes leave l (data_taken m.sequence_number values remembered l)
data_comes leave m values remembered l is brings data_is =
    by_move leave (Brings m.sequence_number values remembered) l (m, record { remembers = is; brings = brings; numbers = refl }, data_is)

-- ---- in Ready

asks_anew : (l : LinkState) → subscribes (with_phase phase.Subscribing (forgotten l)) ≡ subscribes l
unfolding subscribes subscription_request
asks_anew l = refl

restarts_comes : (leave : Leave) (l : LinkState) → is_ready l ≡ true → Comes leave l (ready_rules.restarts l)
unfolding ready_rules.restarts
restarts_comes leave l e =
    move_then leave Loses l (λ x. subscribes l) e
    (subst (Comes leave (with_phase phase.Subscribing (forgotten l))) (asks_anew l)
    (subscribes_comes leave (with_phase phase.Subscribing (forgotten l)) refl))

brings_comes : (leave : Leave) (c : Content) (m : NotificationMessage) (remembered : Remembered) (l : LinkState) → is_ready l ≡ true
    → l.remembered ≡ Some remembered → leave.brought ≡ Some m → content_of m.notification_data ≡ c
    → Comes leave l (ready_rules.brings c m.sequence_number remembered l)
unfolding ready_rules.brings
brings_comes leave content.Alive m remembered l e is brings has =
    then_comes leave l fills (kept_alive m.sequence_number remembered l) (alive_comes leave m remembered l is brings has) (fills_comes none _)
brings_comes leave content.Ended m remembered l e is brings has = restarts_comes leave l e
brings_comes leave (content.Values values) m remembered l e is brings has =
    then_comes leave l fills (data_taken m.sequence_number values remembered l) (data_comes leave m values remembered l is brings has) (fills_comes none _)
brings_comes leave content.Unread m remembered l e is brings has = falls leave l

publish_by : (left_ones : Option Publishes) (r : Option Remembered) (p : PublishResponse) (ready : ReadyState) (l : LinkState) → l.phase ≡ phase.Ready ready
    → l.remembered ≡ r → ready_rules.answered p.response_header.request_handle ready.publishes ≡ left_ones
    → Comes (leave_in (Some (reply.Subscription (sub_reply.Publish p)))) l (ready_rules.publish_replied_by left_ones r p ready l)
unfolding ready_rules.publish_replied_by
publish_by None r p ready l e is a = falls _ l
publish_by (Some left_ones) None p ready l e is a = falls _ l
publish_by (Some left_ones) (Some remembered) p ready l e is a =
    let given : Leave = leave_in (Some (reply.Subscription (sub_reply.Publish p))) in
    let next : LinkState = ready_rules.heard_of_it left_ones ready l in
    let m : NotificationMessage = p.notification_message in
    either given (is_good p.response_header.service_result && (p.subscription_id == remembered.id)) l
    (ready_rules.message_brings m remembered next) (broken l)
    (move_then given (Answers ready left_ones l.age) l (λ x. ready_rules.message_brings m remembered next)
    (e, refl, (p.response_header.request_handle, a))
    (brings_comes (record given { answer = false }) (content_of m.notification_data) m remembered next refl is refl refl))
    (falls given l)

refused_by : (left_ones : Option Publishes) (h : ResponseHeader) (ready : ReadyState) (l : LinkState) → l.phase ≡ phase.Ready ready
    → ready_rules.answered h.request_handle ready.publishes ≡ left_ones
    → Comes (leave_in (Some (reply.Session (session_reply.ServiceFault h)))) l (ready_rules.publish_refused_by left_ones h.service_result ready l)
refused_by None h ready l e a = falls _ l
refused_by (Some left_ones) h ready l e a =
    let given : Leave = leave_in (Some (reply.Session (session_reply.ServiceFault h))) in
    let code : ℕ = h.service_result in
    either given (code == bad_too_many_publish_requests) l (nothing (with_ready (record ready { publishes = left_ones }) l))
    (if code == bad_no_subscription then ready_rules.restarts l else broken l)
    (by_move given (Answers ready left_ones l.since) l (e, refl, (h.request_handle, a)))
    (either given (code == bad_no_subscription) l (ready_rules.restarts l) (broken l) (restarts_comes given l (is_ready_at l ready e)) (falls given l))

low_comes : (leave : Leave) (level : ℕ) (l : LinkState) → Comes leave l (ready_rules.leaves_low level l)
unfolding ready_rules.leaves_low
low_comes leave level l = either leave (ready_rules.is_left level l) l (broken l) (nothing l) (falls leave l) (idle leave l)

level_by : (leave : Leave) (level : Option ℕ) (l : LinkState) → is_ready l ≡ true → leave.level ≡ true → (a : Asked) → l.conversation.reading ≡ Some a
    → Comes leave l (ready_rules.level_told level l)
unfolding ready_rules.level_told
level_by leave None l e may a reads = falls leave l
level_by leave (Some level) l e may a reads =
    move_then leave (Levels level) l (ready_rules.leaves_low level) (may, e, (a, reads)) (low_comes _ level (ready_rules.no_reading l))

read_by : (leave : Leave) (level : Option ℕ) (o : Option Asked) (h : ResponseHeader) (l : LinkState) → is_ready l ≡ true → leave.level ≡ true
    → l.conversation.reading ≡ o → Comes leave l (if ready_rules.is_answer_to o h then ready_rules.level_told level l else broken l)
read_by leave level None h l e may reads = falls leave l
read_by leave level (Some a) h l e may reads =
    either leave (ready_rules.is_answer_to (Some a) h) l (ready_rules.level_told level l) (broken l) (level_by leave level l e may a reads) (falls leave l)

read_comes : (leave : Leave) (r : ReadResponse) (l : LinkState) → is_ready l ≡ true → leave.level ≡ true
    → Comes leave l (ready_rules.level_replied r l)
unfolding ready_rules.level_replied
read_comes leave r l e may = read_by leave (ready_rules.one_level r.results) l.conversation.reading r.response_header l e may refl

confirms_comes : (leave : Leave) (setting : Setting) (ready : ReadyState) (l : LinkState) → l.phase ≡ phase.Ready ready
    → ready.setting ≡ Some setting → Comes leave l (ready_rules.confirms setting ready l)
unfolding ready_rules.confirms
confirms_comes leave setting ready l e is =
    let next : LinkState = with_ready (record ready { setting = None; confirmed = Some setting.mode }) l in
    move_then leave (Confirms setting ready) l sets_mode (e, is) (mode_comes leave next)

mode_replied_by : (leave : Leave) (setting : Option Setting) (h : ResponseHeader) (ready : ReadyState) (l : LinkState) → l.phase ≡ phase.Ready ready
    → ready.setting ≡ setting → Comes leave l (ready_rules.mode_replied_by setting h ready l)
mode_replied_by leave None h ready l e is = falls leave l
mode_replied_by leave (Some setting) h ready l e is =
    either leave (is_reply_to setting.asked.handle h) l (ready_rules.confirms setting ready l) (broken l) (confirms_comes leave setting ready l e is) (falls leave l)

ready_comes : (r : Reply) (ready : ReadyState) (l : LinkState) → l.phase ≡ phase.Ready ready → Comes (leave_in (Some r)) l (ready_rules.in_ready r ready l)
unfolding ready_rules.in_ready ready_rules.publish_refused ready_rules.publish_replied ready_rules.mode_replied
ready_comes (reply.Session (session_reply.ServiceFault h)) ready l e = refused_by _ h ready l e refl
ready_comes (reply.Session (session_reply.Read r)) ready l e = read_comes _ r l (is_ready_at l ready e) refl
ready_comes (reply.Subscription (sub_reply.Publish r)) ready l e = publish_by _ l.remembered r ready l e refl refl
ready_comes (reply.Subscription (sub_reply.SetMonitoringMode r)) ready l e = mode_replied_by _ ready.setting r.response_header ready l e refl
ready_comes other ready l e = falls _ l

-- ---- on the way to Ready

again_comes : (leave : Leave) (numbers : List ℕ) (remembered : Remembered) (l : LinkState) → is_begun l ≡ true
    → Comes leave l (sub_rules.asks_again numbers remembered l)
unfolding sub_rules.asks_again
again_comes leave [] remembered l e = enters_comes leave None l e
again_comes leave (number ∷ wanted) remembered l e = asking leave (Again remembered.id number wanted) l (λ n r. refl) tt e

begins_by : (leave : Leave) (r : Option Remembered) (l : LinkState) → is_begun l ≡ true → Comes leave l (sub_rules.begins_by r l)
begins_by leave None l e = subscribes_comes leave l e
begins_by leave (Some remembered) l e = asking leave (Transfer remembered.id) l (λ n r. refl) tt e

begins_comes : (leave : Leave) (l : LinkState) → is_begun l ≡ true → Comes leave l (sub_rules.begins l)
unfolding sub_rules.begins
begins_comes leave l e = begins_by leave l.remembered l e

transfers_by : (leave : Leave) (a : Option (List ℕ)) (r : Option Remembered) (l : LinkState) → is_begun l ≡ true
    → Comes leave l (sub_rules.transfers_by a r l)
transfers_by leave None r l e = subscribes_comes leave l e
transfers_by leave (Some available) None l e = subscribes_comes leave l e
transfers_by leave (Some available) (Some remembered) l e = again_comes leave _ remembered l e

transferred_comes : (leave : Leave) (a : Option (List ℕ)) (h : ResponseHeader) (l : LinkState) → is_begun l ≡ true
    → Comes leave l (sub_rules.transferred a h l)
unfolding sub_rules.transferred
transferred_comes leave a h l e =
    either leave (h.request_handle == l.conversation.last) l (sub_rules.transfers_by a l.remembered l) (broken l)
    (transfers_by leave a l.remembered l e) (falls leave l)

transferring_comes : (leave : Leave) (r : Reply) (l : LinkState) → is_begun l ≡ true → Comes leave l (sub_rules.in_transferring r l)
unfolding sub_rules.in_transferring
transferring_comes leave (reply.Session (session_reply.ServiceFault h)) l e = transferred_comes leave None h l e
transferring_comes leave (reply.Subscription (sub_reply.TransferSubscriptions r)) l e = transferred_comes leave _ r.response_header l e
transferring_comes leave other l e = falls leave l

wanted_is : (p : Phase) (wanted : List ℕ) → sub_rules.wanted_in p ≡ Some wanted → is_begun_phase p ≡ true
wanted_is (phase.Republishing other) wanted e = refl
wanted_is (phase.Ready ready) wanted e = absurd cc
wanted_is phase.Idle wanted e = absurd cc
wanted_is (phase.Dialing taken) wanted e = absurd cc
wanted_is phase.Hello wanted e = absurd cc
wanted_is phase.Opening wanted e = absurd cc
wanted_is phase.Creating wanted e = absurd cc
wanted_is phase.Activating wanted e = absurd cc
wanted_is phase.Probing wanted e = absurd cc
wanted_is phase.Transferring wanted e = absurd cc
wanted_is phase.Subscribing wanted e = absurd cc
wanted_is phase.Adding wanted e = absurd cc

goes_by : (leave : Leave) (l : LinkState) (o : Option (List ℕ)) (r : Option Remembered) → sub_rules.wanted_in l.phase ≡ o
    → Comes leave l (sub_rules.goes_on_by o r l)
goes_by leave l None r e = idle leave l
goes_by leave l (Some wanted) None e = idle leave l
goes_by leave l (Some wanted) (Some remembered) e = again_comes leave wanted remembered l (wanted_is l.phase wanted e)

goes_comes : (leave : Leave) (l : LinkState) → Comes leave l (sub_rules.goes_on l)
unfolding sub_rules.goes_on
goes_comes leave l = goes_by leave l (sub_rules.wanted_in l.phase) l.remembered refl

brings_again : (leave : Leave) (c : Content) (m : NotificationMessage) (remembered : Remembered) (l : LinkState)
    → l.remembered ≡ Some remembered → leave.brought ≡ Some m → content_of m.notification_data ≡ c
    → Comes leave l (sub_rules.brings_again c m.sequence_number remembered l)
unfolding sub_rules.brings_again
brings_again leave content.Alive m remembered l is brings has = alive_comes leave m remembered l is brings has
brings_again leave content.Ended m remembered l is brings has = idle leave l
brings_again leave (content.Values values) m remembered l is brings has = data_comes leave m values remembered l is brings has
brings_again leave content.Unread m remembered l is brings has = falls leave l

message_again : (leave : Leave) (m : NotificationMessage) (r : Option Remembered) (l : LinkState) → l.remembered ≡ r → leave.brought ≡ Some m
    → Comes leave l (sub_rules.message_again m r l)
unfolding sub_rules.message_again
message_again leave m None l is brings = falls leave l
message_again leave m (Some remembered) l is brings =
    let did : LinkDid = sub_rules.brings_again (content_of m.notification_data) m.sequence_number remembered l in
    then_comes leave l sub_rules.goes_on did (brings_again leave (content_of m.notification_data) m remembered l is brings refl)
    (goes_comes none did.link)

republishing_comes : (r : Reply) (l : LinkState) → Comes (leave_in (Some r)) l (sub_rules.in_republishing r l)
unfolding sub_rules.in_republishing
republishing_comes (reply.Session (session_reply.ServiceFault h)) l =
    either _ (is_fault l.conversation.last bad_message_not_available h) l (sub_rules.goes_on l) (broken l) (goes_comes _ l) (falls _ l)
republishing_comes (reply.Subscription (sub_reply.Republish r)) l =
    either _ (is_answer r.response_header l) l (sub_rules.message_again r.notification_message l.remembered l) (broken l)
    (message_again _ r.notification_message l.remembered l refl refl) (falls _ l)
republishing_comes other l = falls _ l

subscribed_comes : (leave : Leave) (id : ℕ) (l : LinkState) → is_begun l ≡ true → leave.made ≡ Some id → leave.born ≡ Some id
    → leave.brought ≡ None
    → Comes leave l (sub_rules.subscribed id l)
unfolding sub_rules.subscribed sub_rules.adds_items
subscribed_comes leave id l e makes born brings =
    move_then leave (Makes id) l (sub_rules.adds_items id) (born, e, brings)
    (asking (record leave { born = None }) (Items id) (sub_rules.made id l) (λ n r. refl) tt (e, makes, refl))

subscribing_comes : (r : Reply) (l : LinkState) → is_begun l ≡ true → Comes (leave_in (Some r)) l (sub_rules.in_subscribing r l)
unfolding sub_rules.in_subscribing
subscribing_comes (reply.Subscription (sub_reply.CreateSubscription r)) l e =
    either _ (is_answer r.response_header l) l (sub_rules.subscribed r.subscription_id l) (broken l)
    (subscribed_comes _ r.subscription_id l e refl refl refl) (falls _ l)
subscribing_comes other l e = falls _ l

added_comes : (leave : Leave) (monitored : List Monitored) (l : LinkState) → face_of l.phase ≡ Adds → Comes leave l (sub_rules.added monitored l)
unfolding sub_rules.added enters_ready
added_comes leave [] l e = falls leave l
added_comes leave (first ∷ more) l e =
    let next : LinkState = record l { monitored = first ∷ more } in
    move_then leave (Completes (Some l.config.rest) (first ∷ more)) l fills (e, tt)
    (fills_comes leave (with_phase (phase.Ready (new_ready (Some l.config.rest))) next))

adding_comes : (leave : Leave) (r : Reply) (l : LinkState) → face_of l.phase ≡ Adds → Comes leave l (sub_rules.in_adding r l)
unfolding sub_rules.in_adding
adding_comes leave (reply.Subscription (sub_reply.CreateMonitoredItems r)) l e =
    either leave (is_answer r.response_header l) l (sub_rules.added (sub_rules.monitored_of l.config.items r.results) l) (broken l)
    (added_comes leave (sub_rules.monitored_of l.config.items r.results) l e) (falls leave l)
adding_comes leave other l e = falls leave l

-- ---- the session and the redundancy

activates_comes : (leave : Leave) (l : LinkState) → is_begun l ≡ true → Comes leave l (start_rules.activates l)
unfolding start_rules.activates
activates_comes leave l e = asking leave Activation l (λ n r. refl) tt e

creating_comes : (leave : Leave) (r : Reply) (l : LinkState) → is_begun l ≡ true → Comes leave l (start_rules.in_creating r l)
unfolding start_rules.in_creating
creating_comes leave (reply.Session (session_reply.CreateSession r)) l e =
    let next : LinkState = record l { session = r.authentication_token } in
    either leave (is_answer r.response_header l) l (start_rules.activates next) (broken l)
    (from_same leave l next (start_rules.activates next)
    (record { face = refl; config = refl; wait = refl; remembered = refl; acks = refl; monitored = refl; last = refl; reading = refl })
    (activates_comes leave next e)) (falls leave l)
creating_comes leave other l e = falls leave l

probes_comes : (leave : Leave) (l : LinkState) → is_begun l ≡ true → Comes leave l (start_rules.probes l)
unfolding start_rules.probes
probes_comes leave l e = asking leave Probe l (λ n r. refl) tt e

activating_comes : (leave : Leave) (r : Reply) (l : LinkState) → is_begun l ≡ true → Comes leave l (start_rules.in_activating r l)
unfolding start_rules.in_activating
activating_comes leave (reply.Session (session_reply.ActivateSession r)) l e =
    either leave (is_answer r.response_header l) l (start_rules.probes l) (broken l) (probes_comes leave l e) (falls leave l)
activating_comes leave other l e = falls leave l

-- once the first level is told the link probes no more; what follows doesn't look at it
falls_judged : (l next : LinkState) → is_ready l ≡ false → next.config ≡ l.config → is_ready next ≡ false → next.remembered ≡ l.remembered → next.acks ≡ l.acks
    → next.monitored ≡ l.monitored → IsFallen l (broken next)
falls_judged l next e config is remembered acks monitored =
    falls_from l next (broken next) (is ∙ sym e) config (inl (remembered, acks, monitored)) (broken_falls next)

unsupported_comes : (leave : Leave) (l : LinkState) → is_begun l ≡ true → Comes leave (record l { phase = phase.Activating }) (start_rules.unsupported l)
unfolding start_rules.unsupported
unsupported_comes leave l e =
    let now : LinkState = record l { phase = phase.Activating } in
    let next : LinkState = record now { unsupported = true } in
    let marked : LinkState = record l { unsupported = true } in
    turned_then leave now (λ x. broken marked) (tells (notice.Unsupported ∷ []) next)
    (record { same = record { face = refl; config = refl; wait = refl; remembered = refl; acks = refl; monitored = refl; last = refl; reading = refl }; silent = tt; plain = (tt, tt) })
    (by_move leave (Falls (broken marked)) next (falls_judged next marked refl refl (begun_unready l.phase e) refl refl refl))

begins_anew : (l : LinkState) → sub_rules.begins (record l { phase = phase.Activating }) ≡ sub_rules.begins l
unfolding sub_rules.begins subscribes subscription_request transfer_request
begins_anew l = by_it l.remembered
  where
    by_it : (r : Option Remembered) → sub_rules.begins_by r (record l { phase = phase.Activating }) ≡ sub_rules.begins_by r l
    by_it None = refl
    by_it (Some remembered) = refl

judges_comes : (leave : Leave) (level : ℕ) (support : ℤ) (l : LinkState) → is_begun l ≡ true
    → Comes leave (record l { phase = phase.Activating }) (start_rules.judges level support l)
unfolding start_rules.judges
judges_comes leave level support l e =
    let now : LinkState = record l { phase = phase.Activating } in
    either leave (start_rules.is_unused support) now (start_rules.unsupported l) (if ready_rules.is_left level l then broken l else sub_rules.begins l)
    (unsupported_comes leave l e)
    (either leave (ready_rules.is_left level l) now (broken l) (sub_rules.begins l)
    (by_move leave (Falls (broken l)) now (falls_judged now l refl refl (begun_unready l.phase e) refl refl refl))
    (subst (Comes leave now) (begins_anew l) (begins_comes leave now refl)))

probed_by : (leave : Leave) (level : Option ℕ) (support : Option ℤ) (l : LinkState) → l.phase ≡ phase.Probing → leave.level ≡ true
    → Comes leave l (start_rules.probed_by level support l)
unfolding start_rules.probed_by
probed_by leave None support l e may = falls leave l
probed_by leave (Some level) None l e may = falls leave l
probed_by leave (Some level) (Some support) l e may =
    move_then leave (Probed level) l (λ x. start_rules.judges level support l) (may, ap face_of e)
    (judges_comes (record leave { level = false }) level support l (ap is_begun_phase e))

probed_comes : (leave : Leave) (values : List (Stamped Variant)) (l : LinkState) → l.phase ≡ phase.Probing → leave.level ≡ true
    → Comes leave l (start_rules.probed values l)
unfolding start_rules.probed
probed_comes leave [] l e may = falls leave l
probed_comes leave (level ∷ []) l e may = falls leave l
probed_comes leave (level ∷ support ∷ []) l e may = probed_by leave _ _ l e may
probed_comes leave (level ∷ support ∷ another ∷ more) l e may = falls leave l

probing_comes : (r : Reply) (l : LinkState) → l.phase ≡ phase.Probing → Comes (leave_in (Some r)) l (start_rules.in_probing r l)
unfolding start_rules.in_probing
probing_comes (reply.Session (session_reply.Read r)) l e =
    either _ (is_answer r.response_header l) l (start_rules.probed r.results l) (broken l) (probed_comes _ r.results l e refl) (falls _ l)
probing_comes other l e = falls _ l

-- ---- replies

replied_by : (p : Phase) (r : Reply) (l : LinkState) → l.phase ≡ p → Comes (leave_in (Some r)) l (step_rules.replied_in p r l)
replied_by phase.Idle r l e = falls _ l
replied_by (phase.Dialing taken) r l e = falls _ l
replied_by phase.Hello r l e = falls _ l
replied_by phase.Opening r l e = falls _ l
replied_by phase.Creating r l e = creating_comes _ r l (ap is_begun_phase e)
replied_by phase.Activating r l e = activating_comes _ r l (ap is_begun_phase e)
replied_by phase.Probing r l e = probing_comes r l e
replied_by phase.Transferring r l e = transferring_comes _ r l (ap is_begun_phase e)
replied_by (phase.Republishing wanted) r l e = republishing_comes r l
replied_by phase.Subscribing r l e = subscribing_comes r l (ap is_begun_phase e)
replied_by phase.Adding r l e = adding_comes _ r l (ap face_of e)
replied_by (phase.Ready ready) r l e = ready_comes r ready l e

read_reply : (result : Result Reply BodyFault) (l : LinkState) → Comes (leave_read result) l (step_rules.replied_by result l)
read_reply (Ok r) l = replied_by l.phase r l refl
read_reply (Err fault) l = falls _ l

-- ---- the channel

creates_comes : (leave : Leave) (l : LinkState) → is_begun l ≡ true → Comes leave l (open_rules.creates_session l)
unfolding open_rules.creates_session
creates_comes leave l e = asking leave Session l (λ n r. refl) tt e

renews_turned : (t : ChannelSecurityToken) (l : LinkState) → IsTurned l (open_rules.renews t l)
unfolding open_rules.renews
renews_turned t l = record {
  same = record { face = refl; config = refl; wait = refl; remembered = refl; acks = refl; monitored = refl; last = refl; reading = refl };
  silent = (tt, tt);
  plain = tt;
}

renewed_link : (t : ChannelSecurityToken) (l : LinkState) → is_begun (open_rules.renews t l).link ≡ is_begun l
unfolding open_rules.renews
renewed_link t l = refl

heard_same : (l : LinkState) → IsSame l (open_rules.heard_once l)
heard_same l = record { face = refl; config = refl; wait = refl; remembered = refl; acks = refl; monitored = refl; last = refl; reading = refl }

channel_renewed : (leave : Leave) (r : OpenSecureChannelResponse) (l : LinkState)
    → Comes leave l (if ready_rules.is_answer_to l.conversation.renewal r.response_header then
    open_rules.renews r.security_token (open_rules.heard_once l) else broken l)
channel_renewed leave r l =
    either leave (ready_rules.is_answer_to l.conversation.renewal r.response_header) l
    (open_rules.renews r.security_token (open_rules.heard_once l)) (broken l)
    (from_same leave l (open_rules.heard_once l) _ (heard_same l)
    (turned leave (open_rules.heard_once l) _ (renews_turned r.security_token (open_rules.heard_once l)))) (falls leave l)

channel_by : (leave : Leave) (p : Phase) (r : OpenSecureChannelResponse) (l : LinkState) → l.phase ≡ p → Comes leave l (open_rules.channel_replied_in p r l)
unfolding open_rules.channel_replied_in
channel_by leave phase.Opening r l e =
    let did : LinkDid = open_rules.renews r.security_token l in
    either leave (is_answer r.response_header l) l (and_then open_rules.creates_session did) (broken l)
    (turned_then leave l open_rules.creates_session did (renews_turned r.security_token l)
    (creates_comes leave did.link (renewed_link r.security_token l ∙ ap is_begun_phase e)))
    (falls leave l)
channel_by leave phase.Idle r l e = channel_renewed leave r l
channel_by leave other r l e = channel_renewed leave r l

opening_reply : (leave : Leave) (r : Reply) (l : LinkState) → Comes leave l (open_rules.in_opening r l)
unfolding open_rules.in_opening
opening_reply leave (reply.Session (session_reply.OpenSecureChannel r)) l = channel_by leave l.phase r l refl
opening_reply leave other l = falls leave l

read_opening : (leave : Leave) (result : Result Reply BodyFault) (l : LinkState) → Comes leave l (step_rules.opening_by result l)
read_opening leave (Ok r) l = opening_reply leave r l
read_opening leave (Err fault) l = falls leave l

opens_comes : (leave : Leave) (l : LinkState) → is_begun l ≡ true → Comes leave l (open_rules.opens_channel l)
unfolding open_rules.opens_channel
opens_comes leave l e = opening leave Channel l (λ n r. refl) tt e

acknowledged_comes : (leave : Leave) (g : Greeting) (l : LinkState) → is_begun l ≡ true → Comes leave l (open_rules.acknowledged_by g l)
unfolding open_rules.acknowledged_by
acknowledged_comes leave g l e =
    let next : LinkState = open_rules.with_limit (open_rules.limit_named g) l in
    let did : LinkDid = says (Limited (open_rules.limits_of g)) next in
    either leave (open_rules.is_enough g) l (and_then open_rules.opens_channel did) (broken l)
    (turned_then leave l open_rules.opens_channel did
    (record { same = record { face = refl; config = refl; wait = refl; remembered = refl; acks = refl; monitored = refl; last = refl; reading = refl }; silent = (tt, tt); plain = tt })
    (opens_comes leave next e))
    (falls leave l)

greeting_comes : (leave : Leave) (result : Result Greeting Fault) (l : LinkState) → is_begun l ≡ true → Comes leave l (open_rules.greeted_by result l)
unfolding open_rules.greeted_by
greeting_comes leave (Ok g) l e = acknowledged_comes leave g l e
greeting_comes leave (Err fault) l e = falls leave l

greeted_by : (leave : Leave) (p : Phase) (body : List ℕ) (l : LinkState) → l.phase ≡ p → Comes leave l (open_rules.greeted_in p body l)
greeted_by leave phase.Hello body l e = greeting_comes leave _ l (ap is_begun_phase e)
greeted_by leave phase.Idle body l e = falls leave l
greeted_by leave other body l e = falls leave l

-- ---- what is heard

hears_comes : (h : Heard) (l : LinkState) → Comes (leave_heard h) l (step_rules.hears h l)
unfolding open_rules.greeted step_rules.opening_replied step_rules.replied
hears_comes (said.Greeting body) l = greeted_by _ l.phase body l refl
hears_comes (said.Opening channel follows request body) l =
    either _ follows l (step_rules.opening_by (body_at replies body) l) (broken l) (read_opening _ (body_at replies body) l) (falls _ l)
hears_comes (said.Message request body) l = read_reply _ l
hears_comes said.Close l = falls _ l
hears_comes (said.Fault code) l = falls _ l

heard_comes : (h : Heard) (l : LinkState) → Comes (leave_heard h) l (step_rules.heard h l)
unfolding step_rules.heard
heard_comes h l = either _ (is_deaf (step_rules.ear_of l)) l (nothing l) (step_rules.hears h l) (idle _ l) (hears_comes h l)

-- ---- other events

greets_comes : (leave : Leave) (url : Option (List ℕ)) (l : LinkState) → face_of l.phase ≡ Calls → is_ready l ≡ false
    → Comes leave l (open_rules.greets url (open_rules.connected url l))
unfolding open_rules.greets
greets_comes leave url l e is =
    let next : LinkState = open_rules.connected url l in
    either leave (open_rules.is_short url) l (says (Greeted hello url) next) (broken next)
    (by_move leave (Greets url) l e) (by_move leave (Falls (broken next)) l (falls_judged l next is refl refl refl refl refl))

opened_by : (leave : Leave) (p : Phase) (url : Option (List ℕ)) (l : LinkState) → l.phase ≡ p → Comes leave l (open_rules.opened_in p url l)
opened_by leave phase.Idle url l e =
    turned leave l _ (quiet l (record l { closes = true }) (record { face = refl; config = refl; wait = refl; remembered = refl; acks = refl; monitored = refl; last = refl; reading = refl }))
opened_by leave (phase.Dialing taken) url l e = greets_comes leave url l (ap face_of e) (ap is_ready_phase e)
opened_by leave other url l e = falls leave l

opened_comes : (leave : Leave) (url : Option (List ℕ)) (l : LinkState) → Comes leave l (open_rules.opened url l)
unfolding open_rules.opened
opened_comes leave url l = opened_by leave l.phase url l refl

refused_in : (leave : Leave) (p : Phase) (l : LinkState) → Comes leave l (open_rules.refused_in p l)
refused_in leave (phase.Dialing taken) l = drops leave l
refused_in leave other l = idle leave l

refused_comes : (leave : Leave) (l : LinkState) → Comes leave l (open_rules.refused l)
unfolding open_rules.refused
refused_comes leave l = refused_in leave l.phase l

closed_in : (leave : Leave) (p : Phase) (l : LinkState) → Comes leave l (open_rules.closed_in p l)
closed_in leave phase.Idle l = idle leave l
closed_in leave (phase.Dialing taken) l = idle leave l
closed_in leave other l = drops leave l

unclosed : (leave : Leave) (l : LinkState) → Comes leave l (nothing (record l { closes = false }))
unclosed leave l =
    turned leave l _ (quiet l (record l { closes = false }) (record { face = refl; config = refl; wait = refl; remembered = refl; acks = refl; monitored = refl; last = refl; reading = refl }))

closed_comes : (leave : Leave) (l : LinkState) → Comes leave l (open_rules.closed l)
unfolding open_rules.closed
closed_comes leave l =
    either leave l.closes l (nothing (record l { closes = false })) (open_rules.closed_in l.phase l) (unclosed leave l) (closed_in leave l.phase l)

level_read : (leave : Leave) (l : LinkState) → is_ready l ≡ true → Comes leave l (time_rules.reads_level l)
unfolding time_rules.reads_level
level_read leave l e =
    either leave (time_rules.is_level_due l.conversation.reading l) l _ (nothing l)
    (asking leave Level l (λ n r. refl) tt e) (idle leave l)

renewal_by : (leave : Leave) (l : LinkState) (b : Bool) → is_ready l ≡ b
    → Comes leave l (if b then (if time_rules.is_renewal_due l.conversation.renewal l then asked_opening (channel_request (pos 1) l) (time_rules.with_renewal l) else nothing l) else nothing l)
renewal_by leave l true e =
    either leave (time_rules.is_renewal_due l.conversation.renewal l) l (asked_opening (channel_request (pos 1) l) (time_rules.with_renewal l)) (nothing l)
    (opening leave Renewal l (λ n r. refl) tt e) (idle leave l)
renewal_by leave l false e = idle leave l

token_renewed : (leave : Leave) (l : LinkState) → Comes leave l (time_rules.renews_token l)
unfolding time_rules.renews_token
token_renewed leave l = renewal_by leave l (is_ready l) refl

keeps_up : (leave : Leave) (l : LinkState) → Comes leave l (time_rules.keeps_up l)
unfolding time_rules.keeps_up
keeps_up leave l =
    if_so leave (is_ready l) l (and_then time_rules.renews_token (time_rules.reads_level l)) (nothing l)
    (λ e. then_comes leave l time_rules.renews_token (time_rules.reads_level l) (level_read leave l e) (token_renewed none (time_rules.reads_level l).link)) (idle leave l)

-- what comes of it once the link is older
pub ticked_rest : (l : LinkState) → Comes none l (if time_rules.is_overdue l then broken l else time_rules.keeps_up l)
ticked_rest l = either none (time_rules.is_overdue l) l (broken l) (time_rules.keeps_up l) (falls none l) (keeps_up none l)

ticked_comes : (ms : ℕ) (l : LinkState) → Comes (leave_of (step_rules.Ticks ms)) l (time_rules.ticked ms l)
unfolding time_rules.ticked
ticked_comes ms l =
    let next : LinkState = time_rules.aged ms l in
    let did : LinkDid = if time_rules.is_overdue next then broken next else time_rules.keeps_up next in
    move_then (leave_of (step_rules.Ticks ms)) (Ages ms) l (λ x. did) refl
    (ticked_rest next)

wanted_by : (mode : Mode) (l : LinkState) (o : Option ReadyState) → ready_in l.phase ≡ o → Comes (leave_of (step_rules.Wants mode)) l (step_rules.wants_in o mode l)
wanted_by mode l None e = idle _ l
wanted_by mode l (Some ready) e =
    let next : LinkState = with_ready (record ready { wanted = Some mode }) l in
    move_then (leave_of (step_rules.Wants mode)) (Seeks mode ready) l sets_mode (ready_at l.phase ready e, refl) (mode_comes none next)

wants_comes : (mode : Mode) (l : LinkState) → Comes (leave_of (step_rules.Wants mode)) l (step_rules.wants mode l)
unfolding step_rules.wants
wants_comes mode l = wanted_by mode l (ready_in l.phase) refl

dials_by : (l : LinkState) (b : Bool) → open_rules.may_dial l ≡ b
    → Comes (leave_of step_rules.Dials) l (nothing (if b then with_phase (phase.Dialing false) l else l))
dials_by l true e = by_move (leave_of step_rules.Dials) Wishes l (e, refl)
dials_by l false e = idle _ l

taken_face : (p : Phase) → face_of (step_rules.taken_in p) ≡ face_of p
taken_face (phase.Dialing taken) = refl
taken_face other = refl

takes_by : (l : LinkState) (b : Bool) → Comes none l (nothing (if b then record l { closes = false } else record l { phase = step_rules.taken_in l.phase }))
takes_by l true = unclosed none l
takes_by l false =
    let next : LinkState = record l { phase = step_rules.taken_in l.phase } in
    turned none l _ (quiet l next (record { face = taken_face l.phase; config = refl; wait = refl; remembered = refl; acks = refl; monitored = refl; last = refl; reading = refl }))

-- ---- all that may happen

pub happens : (h : step_rules.Happening) (l : LinkState) → Comes (leave_of h) l (step_rules.after h l)
happens (step_rules.Opens url) l = opened_comes none url l
happens step_rules.Refuses l = refused_comes none l
happens step_rules.Closes l = closed_comes none l
happens (step_rules.Hears h) l = heard_comes h l
happens (step_rules.Ticks ms) l = ticked_comes ms l
happens (step_rules.Wants mode) l = wants_comes mode l
happens step_rules.Dials l = dials_by l (open_rules.may_dial l) refl
happens step_rules.Takes l = takes_by l l.closes
