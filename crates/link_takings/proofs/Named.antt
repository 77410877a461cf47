-- Each request for a subscription that a link puts is for the one that it remembers then.
use Rattle.std.proofs.Common.{◌≡◌, ℕ, ℤ, ◌==◌, List, [], ◌∷◌, ◌++◌, length, nat_le, Bool, true, false, Option, Some, None, Result, Ok, Err, if◌then◌else◌, refl}
use Rattle.ua_base.specs.Status.{bad_message_not_available}
use Rattle.ua_base.specs.declared.modes.Mode.{Mode}
use Rattle.ua_variants.specs.declared.variant.Stamped.{Stamped}
use Rattle.ua_variants.specs.declared.variant.Variant.{Variant}
use Rattle.ua_structures.specs.declared.body.BodyFault.{BodyFault}
use Rattle.ua_structures.specs.declared.header.ResponseHeader.{ResponseHeader}
use Rattle.ua_structures.specs.Body.{body_at}
use Rattle.ua_channel.specs.declared.heard.Heard.{Heard}
use Rattle.ua_channel.specs.declared.heard.Heard.TheVariants as heard_of
use Rattle.ua_channel.specs.State.{is_deaf}
use Rattle.ua_session_msgs.specs.declared.reply.SessionReply.TheVariants as session_reply
use Rattle.ua_sub_msgs.specs.declared.notification.NotificationMessage.{NotificationMessage}
use Rattle.ua_sub_msgs.specs.declared.reply.SubReply.TheVariants as sub_reply
use Rattle.ua_services.specs.declared.reply.Reply.{Reply}
use Rattle.ua_services.specs.declared.reply.Reply.TheVariants as reply
use Rattle.ua_services.specs.declared.request.Request.{Request}
use Rattle.ua_services.specs.Families.{replies, written_request}
use Rattle.link_rules.specs.declared.content.Content.{Content}
use Rattle.link_rules.specs.declared.content.Content.TheVariants as content
use Rattle.link_rules.specs.declared.notice.Notice.TheVariants as notice
use Rattle.link_rules.specs.declared.phase.Phase.{Phase}
use Rattle.link_rules.specs.declared.phase.Phase.TheVariants as phase
use Rattle.link_rules.specs.declared.phase.ReadyState.{ReadyState}
use Rattle.link_rules.specs.declared.phase.Setting.{Setting}
use Rattle.link_rules.specs.declared.remembered.Monitored.{Monitored}
use Rattle.link_rules.specs.declared.remembered.Remembered.{Remembered}
use Rattle.link_rules.specs.State.{LinkState, is_ready, ready_in, with_phase, with_ready}
use Rattle.link_rules.specs.Said.{LinkDid, Said, Asks, and_then, nothing, tells}
use Rattle.link_rules.specs.Closing.{broken}
use Rattle.link_rules.specs.Asking.{asked, is_answer, is_fault, is_reply_to, next_request, numbered}
use Rattle.link_rules.specs.Requests.{items_request, mode_request, republish_request, transfer_request}
use Rattle.link_rules.specs.Messages.{content_of, data_taken, kept_alive}
use Rattle.link_rules.specs.Publishing as rules
use Rattle.link_rules.specs.Ready as ready_rules
use Rattle.link_rules.specs.Subscribing as sub_rules
use Rattle.link_rules.specs.Starting as start_rules
use Rattle.link_rules.specs.Opening as open_rules
use Rattle.link_rules.specs.Step as step_rules
use Rattle.link_takings.specs.Naming.{AllOfRemembered, IsOfRemembered, ids_in}
use Rattle.link_takings.proofs.Nameless.{IsNameless, activating_nameless, alive_nameless, broken_nameless, closed_in_nameless, creating_nameless, data_nameless, enters_nameless, greeted_nameless, level_nameless, nameless_of, opened_nameless, publish_nameless, read_opening_nameless, refused_in_nameless, refused_nameless, subscribes_nameless, ticked_nameless, unsupported_nameless}

abbrev IsNamed : LinkDid → Type 0
IsNamed did = AllOfRemembered did.said did.link.remembered

none_named : (did : LinkDid) → IsNameless did → IsNamed did
none_named did h = nameless_of did.said did.link.remembered h

broken_named : (l : LinkState) → IsNamed (broken l)
broken_named l = none_named (broken l) (broken_nameless l)

named_if : (b : Bool) (one other : LinkDid) → IsNamed one → IsNamed other → IsNamed (if b then one else other)
named_if true one other h rest = h
named_if false one other h rest = rest

of_join : (one other : List Said) (o : Option Remembered) → AllOfRemembered one o → AllOfRemembered other o → AllOfRemembered (one ++ other) o
of_join [] other o h rest = rest
of_join (said ∷ one) other o h rest = (h.0, of_join one other o h.1 rest)

-- behind a rule that names none
named_then : (did next : LinkDid) → IsNameless did → IsNamed next
    → IsNamed (record { link = next.link; said = did.said ++ next.said; notices = did.notices ++ next.notices })
named_then did next h rest = of_join did.said next.said next.link.remembered (nameless_of did.said next.link.remembered h) rest

asked_named : (r : Request) (l : LinkState) → IsOfRemembered (ids_in r) l.remembered → IsNamed (asked r l)
unfolding asked
asked_named r l is =
    named_if (nat_le (length (written_request r)) l.conversation.limit) (numbered (Asks (next_request l) r) l) (broken l) (is, tt) (broken_named l)

-- ---- the mode of the items

-- what is told behind it changes nothing
sent_named : (mode : Mode) (did : LinkDid) → IsNamed did → IsNamed (and_then (rules.tells_sent mode) did)
unfolding rules.tells_sent
sent_named mode did h = by_test (is_ready did.link)
  where
    by_test : (b : Bool)
        → AllOfRemembered (did.said ++ (if b then tells (notice.Sent mode ∷ []) did.link else nothing did.link).said)
        (if b then tells (notice.Sent mode ∷ []) did.link else nothing did.link).link.remembered
    by_test true = of_join did.said [] did.link.remembered h tt
    by_test false = of_join did.said [] did.link.remembered h tt

sets_named : (mode : Mode) (ready : ReadyState) (remembered : Remembered) (l : LinkState) → l.remembered ≡ Some remembered
    → IsNamed (rules.sets mode ready remembered l)
unfolding rules.sets mode_request
sets_named mode ready remembered l is =
    sent_named mode (asked (mode_request remembered.id mode l) (rules.with_setting mode ready l))
    (asked_named (mode_request remembered.id mode l) (rules.with_setting mode ready l) (remembered, is, refl))

sets_if_named : (mode : Option Mode) (ready : ReadyState) (o : Option Remembered) (l : LinkState) → l.remembered ≡ o
    → IsNamed (rules.sets_if mode ready o l)
sets_if_named None ready o l is = tt
sets_if_named (Some mode) ready None l is = tt
sets_if_named (Some mode) ready (Some remembered) l is = sets_named mode ready remembered l is

sets_by : (o : Option ReadyState) (l : LinkState) → IsNamed (rules.sets_in o l)
sets_by None l = tt
sets_by (Some ready) l = sets_if_named (rules.mode_due ready) ready l.remembered l refl

sets_mode_named : (l : LinkState) → IsNamed (rules.sets_mode l)
unfolding rules.sets_mode
sets_mode_named l = sets_by (ready_in l.phase) l

confirms_named : (setting : Setting) (ready : ReadyState) (l : LinkState) → IsNamed (ready_rules.confirms setting ready l)
unfolding ready_rules.confirms
confirms_named setting ready l = sets_mode_named (with_ready (record ready { setting = None; confirmed = Some setting.mode }) l)

mode_by : (setting : Option Setting) (h : ResponseHeader) (ready : ReadyState) (l : LinkState) → IsNamed (ready_rules.mode_replied_by setting h ready l)
mode_by None h ready l = broken_named l
mode_by (Some setting) h ready l =
    named_if (is_reply_to setting.asked.handle h) (ready_rules.confirms setting ready l) (broken l) (confirms_named setting ready l) (broken_named l)

ready_named : (r : Reply) (ready : ReadyState) (l : LinkState) → IsNamed (ready_rules.in_ready r ready l)
unfolding ready_rules.in_ready ready_rules.mode_replied
ready_named (reply.Session (session_reply.ServiceFault h)) ready l = none_named (ready_rules.publish_refused h ready l) (refused_nameless h ready l)
ready_named (reply.Session (session_reply.Read r)) ready l = none_named (ready_rules.level_replied r l) (level_nameless r l)
ready_named (reply.Subscription (sub_reply.Publish r)) ready l = none_named (ready_rules.publish_replied r ready l) (publish_nameless r ready l)
ready_named (reply.Subscription (sub_reply.SetMonitoringMode r)) ready l = mode_by ready.setting r.response_header ready l
ready_named other ready l = broken_named l

wants_by : (o : Option ReadyState) (mode : Mode) (l : LinkState) → IsNamed (step_rules.wants_in o mode l)
wants_by None mode l = tt
wants_by (Some ready) mode l = sets_mode_named (with_ready (record ready { wanted = Some mode }) l)

wants_named : (mode : Mode) (l : LinkState) → IsNamed (step_rules.wants mode l)
unfolding step_rules.wants
wants_named mode l = wants_by (ready_in l.phase) mode l

-- ---- the subscription that is remembered

subscribes_named : (l : LinkState) → IsNamed (rules.subscribes l)
subscribes_named l = none_named (rules.subscribes l) (subscribes_nameless l)

begins_by : (o : Option Remembered) (l : LinkState) → l.remembered ≡ o → IsNamed (sub_rules.begins_by o l)
unfolding transfer_request
begins_by None l is = subscribes_named l
begins_by (Some remembered) l is = asked_named (transfer_request remembered.id l) (with_phase phase.Transferring l) (remembered, is, refl)

begins_named : (l : LinkState) → IsNamed (sub_rules.begins l)
unfolding sub_rules.begins
begins_named l = begins_by l.remembered l refl

judges_named : (level : ℕ) (support : ℤ) (l : LinkState) → IsNamed (start_rules.judges level support l)
unfolding start_rules.judges
judges_named level support l =
    named_if (start_rules.is_unused support) (start_rules.unsupported l) (if ready_rules.is_left level l then broken l else sub_rules.begins l)
    (none_named (start_rules.unsupported l) (unsupported_nameless l))
    (named_if (ready_rules.is_left level l) (broken l) (sub_rules.begins l) (broken_named l) (begins_named l))

probed_by : (level : Option ℕ) (support : Option ℤ) (l : LinkState) → IsNamed (start_rules.probed_by level support l)
unfolding start_rules.probed_by
probed_by None support l = broken_named l
probed_by (Some level) None l = broken_named l
probed_by (Some level) (Some support) l = judges_named level support l

probed_named : (values : List (Stamped Variant)) (l : LinkState) → IsNamed (start_rules.probed values l)
unfolding start_rules.probed
probed_named [] l = broken_named l
probed_named (level ∷ []) l = broken_named l
probed_named (level ∷ support ∷ []) l = probed_by _ _ l
probed_named (level ∷ support ∷ another ∷ more) l = broken_named l

probing_named : (r : Reply) (l : LinkState) → IsNamed (start_rules.in_probing r l)
unfolding start_rules.in_probing
probing_named (reply.Session (session_reply.Read r)) l =
    named_if (is_answer r.response_header l) (start_rules.probed r.results l) (broken l) (probed_named r.results l) (broken_named l)
probing_named other l = broken_named l

again_named : (numbers : List ℕ) (remembered : Remembered) (l : LinkState) → l.remembered ≡ Some remembered
    → IsNamed (sub_rules.asks_again numbers remembered l)
unfolding sub_rules.asks_again republish_request
again_named [] remembered l is = none_named (rules.enters_ready None l) (enters_nameless None l)
again_named (number ∷ wanted) remembered l is =
    asked_named (republish_request remembered.id number l) (with_phase (phase.Republishing wanted) l) (remembered, is, refl)

transfers_by : (a : Option (List ℕ)) (o : Option Remembered) (l : LinkState) → l.remembered ≡ o → IsNamed (sub_rules.transfers_by a o l)
transfers_by None o l is = subscribes_named l
transfers_by (Some available) None l is = subscribes_named l
transfers_by (Some available) (Some remembered) l is = again_named _ remembered l is

transferred_named : (a : Option (List ℕ)) (h : ResponseHeader) (l : LinkState) → IsNamed (sub_rules.transferred a h l)
unfolding sub_rules.transferred
transferred_named a h l =
    named_if (h.request_handle == l.conversation.last) (sub_rules.transfers_by a l.remembered l) (broken l)
    (transfers_by a l.remembered l refl) (broken_named l)

transferring_named : (r : Reply) (l : LinkState) → IsNamed (sub_rules.in_transferring r l)
unfolding sub_rules.in_transferring
transferring_named (reply.Session (session_reply.ServiceFault h)) l = transferred_named None h l
transferring_named (reply.Subscription (sub_reply.TransferSubscriptions r)) l = transferred_named _ r.response_header l
transferring_named other l = broken_named l

goes_by : (wanted : Option (List ℕ)) (o : Option Remembered) (l : LinkState) → l.remembered ≡ o → IsNamed (sub_rules.goes_on_by wanted o l)
goes_by None o l is = tt
goes_by (Some wanted) None l is = tt
goes_by (Some wanted) (Some remembered) l is = again_named wanted remembered l is

goes_named : (l : LinkState) → IsNamed (sub_rules.goes_on l)
unfolding sub_rules.goes_on
goes_named l = goes_by (sub_rules.wanted_in l.phase) l.remembered l refl

goes_then : (did : LinkDid) → IsNameless did → IsNamed (and_then sub_rules.goes_on did)
goes_then did h = named_then did (sub_rules.goes_on did.link) h (goes_named did.link)

brings_named : (c : Content) (number : ℕ) (remembered : Remembered) (l : LinkState)
    → IsNamed (and_then sub_rules.goes_on (sub_rules.brings_again c number remembered l))
unfolding sub_rules.brings_again
brings_named content.Alive number remembered l = goes_then (kept_alive number remembered l) (alive_nameless number remembered l)
brings_named content.Ended number remembered l = goes_then (nothing l) tt
brings_named (content.Values values) number remembered l =
    goes_then (data_taken number values remembered l) (data_nameless number values remembered l)
brings_named content.Unread number remembered l = goes_then (broken l) (broken_nameless l)

message_named : (m : NotificationMessage) (o : Option Remembered) (l : LinkState) → IsNamed (sub_rules.message_again m o l)
unfolding sub_rules.message_again
message_named m None l = broken_named l
message_named m (Some remembered) l = brings_named (content_of m.notification_data) m.sequence_number remembered l

republishing_named : (r : Reply) (l : LinkState) → IsNamed (sub_rules.in_republishing r l)
unfolding sub_rules.in_republishing
republishing_named (reply.Session (session_reply.ServiceFault h)) l =
    named_if (is_fault l.conversation.last bad_message_not_available h) (sub_rules.goes_on l) (broken l) (goes_named l) (broken_named l)
republishing_named (reply.Subscription (sub_reply.Republish r)) l =
    named_if (is_answer r.response_header l) (sub_rules.message_again r.notification_message l.remembered l) (broken l)
    (message_named r.notification_message l.remembered l) (broken_named l)
republishing_named other l = broken_named l

-- ---- a new subscription

subscribed_named : (id : ℕ) (l : LinkState) → IsNamed (sub_rules.subscribed id l)
unfolding sub_rules.subscribed sub_rules.adds_items items_request
subscribed_named id l =
    asked_named (items_request id (sub_rules.made id l)) (with_phase phase.Adding (sub_rules.made id l)) (sub_rules.first_of id, refl, refl)

subscribing_named : (r : Reply) (l : LinkState) → IsNamed (sub_rules.in_subscribing r l)
unfolding sub_rules.in_subscribing
subscribing_named (reply.Subscription (sub_reply.CreateSubscription r)) l =
    named_if (is_answer r.response_header l) (sub_rules.subscribed r.subscription_id l) (broken l) (subscribed_named r.subscription_id l) (broken_named l)
subscribing_named other l = broken_named l

added_named : (monitored : List Monitored) (l : LinkState) → IsNamed (sub_rules.added monitored l)
unfolding sub_rules.added
added_named [] l = broken_named l
added_named (first ∷ more) l =
    let next : LinkState = record l { monitored = first ∷ more } in
    none_named (rules.enters_ready (Some l.config.rest) next) (enters_nameless (Some l.config.rest) next)

adding_named : (r : Reply) (l : LinkState) → IsNamed (sub_rules.in_adding r l)
unfolding sub_rules.in_adding
adding_named (reply.Subscription (sub_reply.CreateMonitoredItems r)) l =
    named_if (is_answer r.response_header l) (sub_rules.added (sub_rules.monitored_of l.config.items r.results) l) (broken l)
    (added_named (sub_rules.monitored_of l.config.items r.results) l) (broken_named l)
adding_named other l = broken_named l

-- ---- whatever happens

replied_named : (p : Phase) (r : Reply) (l : LinkState) → IsNamed (step_rules.replied_in p r l)
replied_named phase.Idle r l = broken_named l
replied_named (phase.Dialing taken) r l = broken_named l
replied_named phase.Hello r l = broken_named l
replied_named phase.Opening r l = broken_named l
replied_named phase.Creating r l = none_named (start_rules.in_creating r l) (creating_nameless r l)
replied_named phase.Activating r l = none_named (start_rules.in_activating r l) (activating_nameless r l)
replied_named phase.Probing r l = probing_named r l
replied_named phase.Transferring r l = transferring_named r l
replied_named (phase.Republishing wanted) r l = republishing_named r l
replied_named phase.Subscribing r l = subscribing_named r l
replied_named phase.Adding r l = adding_named r l
replied_named (phase.Ready ready) r l = ready_named r ready l

read_named : (result : Result Reply BodyFault) (l : LinkState) → IsNamed (step_rules.replied_by result l)
read_named (Ok r) l = replied_named l.phase r l
read_named (Err fault) l = broken_named l

hears_named : (h : Heard) (l : LinkState) → IsNamed (step_rules.hears h l)
unfolding open_rules.greeted step_rules.opening_replied step_rules.replied
hears_named (heard_of.Greeting body) l = none_named (open_rules.greeted_in l.phase body l) (greeted_nameless l.phase body l)
hears_named (heard_of.Opening channel follows request body) l =
    named_if follows (step_rules.opening_by (body_at replies body) l) (broken l)
    (none_named (step_rules.opening_by (body_at replies body) l) (read_opening_nameless (body_at replies body) l)) (broken_named l)
hears_named (heard_of.Message request body) l = read_named (body_at replies body) l
hears_named heard_of.Close l = broken_named l
hears_named (heard_of.Fault code) l = broken_named l

heard_named : (h : Heard) (l : LinkState) → IsNamed (step_rules.heard h l)
unfolding step_rules.heard
heard_named h l = named_if (is_deaf (step_rules.ear_of l)) (nothing l) (step_rules.hears h l) tt (hears_named h l)

opened_named : (url : Option (List ℕ)) (l : LinkState) → IsNamed (open_rules.opened url l)
unfolding open_rules.opened
opened_named url l = none_named (open_rules.opened_in l.phase url l) (opened_nameless l.phase url l)

refused_named : (l : LinkState) → IsNamed (open_rules.refused l)
unfolding open_rules.refused
refused_named l = none_named (open_rules.refused_in l.phase l) (refused_in_nameless l.phase l)

closed_named : (l : LinkState) → IsNamed (open_rules.closed l)
unfolding open_rules.closed
closed_named l =
    named_if l.closes (nothing (record l { closes = false })) (open_rules.closed_in l.phase l) tt
    (none_named (open_rules.closed_in l.phase l) (closed_in_nameless l.phase l))

pub event_named : (h : step_rules.Happening) (l : LinkState)
    → AllOfRemembered (step_rules.after h l).said (step_rules.after h l).link.remembered
event_named (step_rules.Opens url) l = opened_named url l
event_named step_rules.Refuses l = refused_named l
event_named step_rules.Closes l = closed_named l
event_named (step_rules.Hears h) l = heard_named h l
event_named (step_rules.Ticks ms) l =
    nameless_of (step_rules.after (step_rules.Ticks ms) l).said (step_rules.after (step_rules.Ticks ms) l).link.remembered (ticked_nameless ms l)
event_named (step_rules.Wants mode) l = wants_named mode l
event_named step_rules.Dials l = tt
event_named step_rules.Takes l = tt
