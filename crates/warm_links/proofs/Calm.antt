-- A link that takes a message of its subscription, or makes one, tells of no mode then.
use Rattle.std.proofs.Common.{◌≡◌, ℕ, zero, suc, ◌==◌, ◌&&◌, List, [], ◌∷◌, ◌++◌, length, reverse, nat_le, Bool, true, false, Option, Some, None, Result, Ok, Err, if◌then◌else◌, refl, sym, subst, inl, inr}
use Rattle.std.specs.List.{find}
use Rattle.std.proofs.lemmas.List.{reverse-append}
use Rattle.ua_structures.specs.declared.body.BodyFault.{BodyFault}
use Rattle.ua_structures.specs.Body.{body_at}
use Rattle.ua_channel.specs.declared.heard.Heard.TheVariants as heard_of
use Rattle.ua_channel.specs.State.{is_deaf}
use Rattle.ua_sub_msgs.specs.declared.notification.MonitoredItemNotification.{MonitoredItemNotification}
use Rattle.ua_sub_msgs.specs.declared.notification.NotificationMessage.{NotificationMessage}
use Rattle.ua_sub_msgs.specs.declared.publish.PublishResponse.{PublishResponse}
use Rattle.ua_sub_msgs.specs.declared.publish.RepublishResponse.{RepublishResponse}
use Rattle.ua_sub_msgs.specs.declared.reply.SubReply.TheVariants as sub_reply
use Rattle.ua_services.specs.declared.reply.Reply.{Reply}
use Rattle.ua_services.specs.declared.reply.Reply.TheVariants as reply
use Rattle.ua_services.specs.declared.request.Request.{Request}
use Rattle.ua_services.specs.Families.{replies, written_request}
use Rattle.link_rules.specs.declared.content.Content.{Content}
use Rattle.link_rules.specs.declared.content.Content.TheVariants as content
use Rattle.link_rules.specs.declared.notice.Notice.{Notice}
use Rattle.link_rules.specs.declared.notice.Notice.TheVariants as notice
use Rattle.link_rules.specs.declared.phase.Phase.{Phase}
use Rattle.link_rules.specs.declared.phase.Phase.TheVariants as phase
use Rattle.link_rules.specs.declared.phase.Publishes.{Publishes}
use Rattle.link_rules.specs.declared.phase.ReadyState.{ReadyState}
use Rattle.link_rules.specs.declared.remembered.Monitored.{Monitored}
use Rattle.link_rules.specs.declared.remembered.Remembered.{Remembered}
use Rattle.link_rules.specs.State.{LinkState, forgotten, ready_in, with_phase}
use Rattle.link_rules.specs.Said.{LinkDid, Asks, and_then, nothing, tells}
use Rattle.link_rules.specs.Closing.{broken, loss_of}
use Rattle.link_rules.specs.Asking.{asked, is_answer, is_good, next_request, numbered}
use Rattle.link_rules.specs.Messages.{acknowledged, all_taken, awaits, content_of, data_taken, has_handle, kept_alive, newest, taken_as, taken_of}
use Rattle.link_rules.specs.Numbers.{is_jump, is_next}
use Rattle.link_rules.specs.Publishing as rules
use Rattle.link_rules.specs.Ready as ready_rules
use Rattle.link_rules.specs.Starting as start_rules
use Rattle.link_rules.specs.Subscribing as sub_rules
use Rattle.link_rules.specs.Step as step_rules
use Rattle.link_rules.specs.Step.{Happening, after}
use Rattle.link_laws.specs.Taken.{id_in, reply_by, reply_of}
use Rattle.link_takings.specs.From.{IsFrom}

-- ---- notices of one kind

abbrev pub AllTell : (Notice → Bool) → List Notice → Type 0
AllTell p [] = Unit {0}
AllTell p (n ∷ more) = (p n ≡ true) × AllTell p more

tell_join : (p : Notice → Bool) (one other : List Notice) → AllTell p one → AllTell p other → AllTell p (one ++ other)
tell_join p [] other h rest = rest
tell_join p (n ∷ one) other h rest = (h.0, tell_join p one other h.1 rest)

pub tell_reverse : (p : Notice → Bool) (notices : List Notice) → AllTell p notices → AllTell p (reverse notices)
tell_reverse p [] h = tt
tell_reverse p (n ∷ notices) h =
    subst (AllTell p) (sym (reverse-append (n ∷ []) notices))
    (tell_join p (reverse notices) (n ∷ []) (tell_reverse p notices h.1) (h.0, tt))

-- of no mode
abbrev pub is_calm : Notice → Bool
is_calm (notice.Sent mode) = false
is_calm (notice.Confirmed mode) = false
is_calm other = true

abbrev pub IsCalm : LinkDid → Type 0
IsCalm did = AllTell is_calm did.notices

-- ---- rules

calm_if : (b : Bool) (one other : LinkDid) → IsCalm one → IsCalm other → IsCalm (if b then one else other)
calm_if true one other h rest = h
calm_if false one other h rest = rest

calm_then : (rule : LinkState → LinkDid) (did : LinkDid) → IsCalm did → IsCalm (rule did.link) → IsCalm (and_then rule did)
calm_then rule did h rest = tell_join is_calm did.notices (rule did.link).notices h rest

loss_calm : (p : Phase) → AllTell is_calm (loss_of p)
loss_calm (phase.Ready ready) = (refl, tt)
loss_calm phase.Idle = tt
loss_calm other = tt

broken_calm : (l : LinkState) → IsCalm (broken l)
unfolding broken
broken_calm l = loss_calm l.phase

asked_calm : (r : Request) (l : LinkState) → IsCalm (asked r l)
unfolding asked
asked_calm r l =
    calm_if (nat_le (length (written_request r)) l.conversation.limit) (numbered (Asks (next_request l) r) l) (broken l) tt (broken_calm l)

-- ---- what is done as soon as it can

publishes_by : (o : Option ReadyState) (r : Option Remembered) (l : LinkState) → IsCalm (rules.publishes_in o r l)
unfolding rules.published
publishes_by None r l = tt
publishes_by (Some ready) None l = tt
publishes_by (Some ready) (Some remembered) l =
    calm_if (rules.has_room ready.publishes) (rules.published ready remembered l) (nothing l) (asked_calm _ (rules.with_publish ready l)) tt

publishes_calm : (l : LinkState) → IsCalm (rules.publishes l)
unfolding rules.publishes
publishes_calm l = publishes_by (ready_in l.phase) l.remembered l

fills_calm : (l : LinkState) → IsCalm (rules.fills l)
unfolding rules.fills
fills_calm l = calm_then rules.publishes (rules.publishes l) (publishes_calm l) (publishes_calm (rules.publishes l).link)

enters_calm : (l : LinkState) → IsCalm (rules.enters_ready None l)
unfolding rules.enters_ready
enters_calm l =
    let next : LinkState = with_phase (phase.Ready (rules.new_ready None)) l in
    calm_then rules.fills (tells (notice.Ready ∷ []) next) (refl, tt) (fills_calm next)

subscribes_calm : (l : LinkState) → IsCalm (rules.subscribes l)
unfolding rules.subscribes
subscribes_calm l = asked_calm _ (with_phase phase.Subscribing (forgotten l))

-- ---- messages of the subscription

taken_calm : (o : Option Monitored) (one : MonitoredItemNotification) → AllTell is_calm (taken_as o one.value)
taken_calm None one = tt
taken_calm (Some monitored) one = (refl, tt)

all_calm : (items : List Monitored) (values : List MonitoredItemNotification) → AllTell is_calm (all_taken items values)
all_calm items [] = tt
all_calm items (one ∷ values) =
    tell_join is_calm (taken_of items one) (all_taken items values) (taken_calm (find (has_handle one.client_handle) items) one)
    (all_calm items values)

alive_calm : (number : ℕ) (r : Remembered) (l : LinkState) → IsCalm (kept_alive number r l)
unfolding kept_alive
alive_calm number r l =
    calm_if (is_jump r.next number) (tells (notice.Jump ∷ []) (awaits number r l)) (nothing l) (refl, tt) tt

data_calm : (number : ℕ) (values : List MonitoredItemNotification) (r : Remembered) (l : LinkState) → IsCalm (data_taken number values r l)
unfolding data_taken
data_calm number values r l = by_tests (is_next r.next number) (is_jump r.next number)
  where
    by_tests : (a b : Bool) → IsCalm (if a then tells (all_taken l.monitored values) (newest number r l)
        else if b then tells (notice.Jump ∷ all_taken l.monitored values) (newest number r l)
        else nothing (acknowledged number l))
    by_tests true b = all_calm l.monitored values
    by_tests false true = (refl, all_calm l.monitored values)
    by_tests false false = tt

-- ---- Publish

restarts_calm : (l : LinkState) → IsCalm (ready_rules.restarts l)
unfolding ready_rules.restarts
restarts_calm l = calm_then rules.subscribes (tells (notice.Lost ∷ []) l) (refl, tt) (subscribes_calm l)

brings_calm : (c : Content) (number : ℕ) (r : Remembered) (l : LinkState) → IsCalm (ready_rules.brings c number r l)
unfolding ready_rules.brings
brings_calm content.Alive number r l =
    calm_then rules.fills (kept_alive number r l) (alive_calm number r l) (fills_calm (kept_alive number r l).link)
brings_calm content.Ended number r l = restarts_calm l
brings_calm (content.Values values) number r l =
    calm_then rules.fills (data_taken number values r l) (data_calm number values r l) (fills_calm (data_taken number values r l).link)
brings_calm content.Unread number r l = broken_calm l

published_by : (o : Option Publishes) (remembered : Option Remembered) (r : PublishResponse) (ready : ReadyState) (l : LinkState)
    → IsCalm (ready_rules.publish_replied_by o remembered r ready l)
unfolding ready_rules.publish_replied_by
published_by None remembered r ready l = broken_calm l
published_by (Some left) None r ready l = broken_calm l
published_by (Some left) (Some remembered) r ready l =
    calm_if (is_good r.response_header.service_result && (r.subscription_id == remembered.id))
    (ready_rules.message_brings r.notification_message remembered (ready_rules.heard_of_it left ready l)) (broken l)
    (brings_calm _ _ remembered (ready_rules.heard_of_it left ready l)) (broken_calm l)

published : (r : PublishResponse) (ready : ReadyState) (l : LinkState)
    → IsCalm (ready_rules.in_ready (reply.Subscription (sub_reply.Publish r)) ready l)
unfolding ready_rules.in_ready ready_rules.publish_replied
published r ready l = published_by (ready_rules.answered r.response_header.request_handle ready.publishes) l.remembered r ready l

publish_calm : (r : PublishResponse) (p : Phase) (l : LinkState) → IsCalm (step_rules.replied_in p (reply.Subscription (sub_reply.Publish r)) l)
unfolding start_rules.in_creating start_rules.in_activating start_rules.in_probing sub_rules.in_transferring sub_rules.in_republishing sub_rules.in_subscribing sub_rules.in_adding
publish_calm r phase.Idle l = broken_calm l
publish_calm r (phase.Dialing taken) l = broken_calm l
publish_calm r phase.Hello l = broken_calm l
publish_calm r phase.Opening l = broken_calm l
publish_calm r phase.Creating l = broken_calm l
publish_calm r phase.Activating l = broken_calm l
publish_calm r phase.Probing l = broken_calm l
publish_calm r phase.Transferring l = broken_calm l
publish_calm r (phase.Republishing wanted) l = broken_calm l
publish_calm r phase.Subscribing l = broken_calm l
publish_calm r phase.Adding l = broken_calm l
publish_calm r (phase.Ready ready) l = published r ready l

-- ---- Republish

again_calm : (numbers : List ℕ) (r : Remembered) (l : LinkState) → IsCalm (sub_rules.asks_again numbers r l)
unfolding sub_rules.asks_again
again_calm [] r l = enters_calm l
again_calm (number ∷ wanted) r l = asked_calm _ (with_phase (phase.Republishing wanted) l)

goes_by : (wanted : Option (List ℕ)) (o : Option Remembered) (l : LinkState) → IsCalm (sub_rules.goes_on_by wanted o l)
goes_by None o l = tt
goes_by (Some wanted) None l = tt
goes_by (Some wanted) (Some r) l = again_calm wanted r l

goes_calm : (l : LinkState) → IsCalm (sub_rules.goes_on l)
unfolding sub_rules.goes_on
goes_calm l = goes_by (sub_rules.wanted_in l.phase) l.remembered l

brings_again : (c : Content) (number : ℕ) (r : Remembered) (l : LinkState) → IsCalm (sub_rules.brings_again c number r l)
unfolding sub_rules.brings_again
brings_again content.Alive number r l = alive_calm number r l
brings_again content.Ended number r l = tt
brings_again (content.Values values) number r l = data_calm number values r l
brings_again content.Unread number r l = broken_calm l

message_calm : (m : NotificationMessage) (o : Option Remembered) (l : LinkState) → IsCalm (sub_rules.message_again m o l)
unfolding sub_rules.message_again
message_calm m None l = broken_calm l
message_calm m (Some r) l =
    let did : LinkDid = sub_rules.brings_again (content_of m.notification_data) m.sequence_number r l in
    calm_then sub_rules.goes_on did (brings_again (content_of m.notification_data) m.sequence_number r l) (goes_calm did.link)

republished : (r : RepublishResponse) (l : LinkState) → IsCalm (sub_rules.in_republishing (reply.Subscription (sub_reply.Republish r)) l)
unfolding sub_rules.in_republishing
republished r l =
    calm_if (is_answer r.response_header l) (sub_rules.message_again r.notification_message l.remembered l) (broken l)
    (message_calm r.notification_message l.remembered l) (broken_calm l)

republish_calm : (r : RepublishResponse) (p : Phase) (l : LinkState)
    → IsCalm (step_rules.replied_in p (reply.Subscription (sub_reply.Republish r)) l)
unfolding start_rules.in_creating start_rules.in_activating start_rules.in_probing sub_rules.in_transferring sub_rules.in_subscribing sub_rules.in_adding ready_rules.in_ready
republish_calm r phase.Idle l = broken_calm l
republish_calm r (phase.Dialing taken) l = broken_calm l
republish_calm r phase.Hello l = broken_calm l
republish_calm r phase.Opening l = broken_calm l
republish_calm r phase.Creating l = broken_calm l
republish_calm r phase.Activating l = broken_calm l
republish_calm r phase.Probing l = broken_calm l
republish_calm r phase.Transferring l = broken_calm l
republish_calm r (phase.Republishing wanted) l = republished r l
republish_calm r phase.Subscribing l = broken_calm l
republish_calm r phase.Adding l = broken_calm l
republish_calm r (phase.Ready ready) l = broken_calm l

-- ---- CreateSubscription

streams_calm : (count : ℕ) → AllTell is_calm (sub_rules.streams count)
streams_calm zero = tt
streams_calm (suc count) =
    tell_join is_calm (sub_rules.streams count) (notice.Stream (suc count) ∷ []) (streams_calm count) (refl, tt)

subscribed_calm : (id : ℕ) (l : LinkState) → IsCalm (sub_rules.subscribed id l)
unfolding sub_rules.subscribed sub_rules.adds_items
subscribed_calm id l =
    calm_then (sub_rules.adds_items id) (tells (sub_rules.streams l.config.items) (sub_rules.made id l)) (streams_calm l.config.items)
    (asked_calm _ (with_phase phase.Adding (sub_rules.made id l)))

subscribing : (r : _) (l : LinkState) → IsCalm (sub_rules.in_subscribing (reply.Subscription (sub_reply.CreateSubscription r)) l)
unfolding sub_rules.in_subscribing
subscribing r l =
    calm_if (is_answer r.response_header l) (sub_rules.subscribed r.subscription_id l) (broken l) (subscribed_calm r.subscription_id l)
    (broken_calm l)

create_calm : (r : _) (p : Phase) (l : LinkState) → IsCalm (step_rules.replied_in p (reply.Subscription (sub_reply.CreateSubscription r)) l)
unfolding start_rules.in_creating start_rules.in_activating start_rules.in_probing sub_rules.in_transferring sub_rules.in_republishing sub_rules.in_adding ready_rules.in_ready
create_calm r phase.Idle l = broken_calm l
create_calm r (phase.Dialing taken) l = broken_calm l
create_calm r phase.Hello l = broken_calm l
create_calm r phase.Opening l = broken_calm l
create_calm r phase.Creating l = broken_calm l
create_calm r phase.Activating l = broken_calm l
create_calm r phase.Probing l = broken_calm l
create_calm r phase.Transferring l = broken_calm l
create_calm r (phase.Republishing wanted) l = broken_calm l
create_calm r phase.Subscribing l = subscribing r l
create_calm r phase.Adding l = broken_calm l
create_calm r (phase.Ready ready) l = broken_calm l

-- ---- an event

some_same : (one other : Reply) → Some one ≡ Some other → one ≡ other
some_same one other e = cc

read_calm : (result : Result Reply BodyFault) (r : Reply) (l : LinkState) → reply_by result ≡ Some r
    → ((p : Phase) (at : LinkState) → IsCalm (step_rules.replied_in p r at)) → IsCalm (step_rules.replied_by result l)
read_calm (Ok one) r l e h =
    subst (λ (x : Reply). IsCalm (step_rules.replied_in l.phase x l)) (sym (some_same one r e)) (h l.phase l)
read_calm (Err fault) r l e h = let bad : None ≡ Some r = e in absurd cc

message_heard : (number : ℕ) (body : List ℕ) (r : Reply) (l : LinkState) → reply_by (body_at replies body) ≡ Some r
    → ((p : Phase) (at : LinkState) → IsCalm (step_rules.replied_in p r at))
    → IsCalm (after (step_rules.Hears (heard_of.Message number body)) l)
unfolding step_rules.heard step_rules.replied
message_heard number body r l e h =
    calm_if (is_deaf (step_rules.ear_of l)) (nothing l) (step_rules.replied_by (body_at replies body) l) tt
    (read_calm (body_at replies body) r l e h)

reply_calm : (h : Happening) (r : Reply) (l : LinkState) → reply_of h ≡ Some r
    → ((p : Phase) (at : LinkState) → IsCalm (step_rules.replied_in p r at)) → IsCalm (after h l)
reply_calm (step_rules.Hears (heard_of.Message number body)) r l e calm = message_heard number body r l e calm
reply_calm (step_rules.Hears (heard_of.Greeting body)) r l e calm = let bad : None ≡ Some r = e in absurd cc
reply_calm (step_rules.Hears (heard_of.Opening channel follows request body)) r l e calm = let bad : None ≡ Some r = e in absurd cc
reply_calm (step_rules.Hears heard_of.Close) r l e calm = let bad : None ≡ Some r = e in absurd cc
reply_calm (step_rules.Hears (heard_of.Fault code)) r l e calm = let bad : None ≡ Some r = e in absurd cc
reply_calm (step_rules.Opens url) r l e calm = let bad : None ≡ Some r = e in absurd cc
reply_calm step_rules.Refuses r l e calm = let bad : None ≡ Some r = e in absurd cc
reply_calm step_rules.Closes r l e calm = let bad : None ≡ Some r = e in absurd cc
reply_calm (step_rules.Ticks ms) r l e calm = let bad : None ≡ Some r = e in absurd cc
reply_calm (step_rules.Wants mode) r l e calm = let bad : None ≡ Some r = e in absurd cc
reply_calm step_rules.Dials r l e calm = let bad : None ≡ Some r = e in absurd cc
reply_calm step_rules.Takes r l e calm = let bad : None ≡ Some r = e in absurd cc

-- data come
pub from_calm : (id number : ℕ) (values : List MonitoredItemNotification) (h : Happening) (l : LinkState) → IsFrom id number values h l
    → IsCalm (after h l)
from_calm id number values h l (inl from) =
    reply_calm h (reply.Subscription (sub_reply.Publish from.response)) l from.comes (publish_calm from.response)
from_calm id number values h l (inr from) =
    reply_calm h (reply.Subscription (sub_reply.Republish from.response)) l from.comes (republish_calm from.response)

-- a subscription is made
made_calm : (o : Option Reply) (id : ℕ) (h : Happening) (l : LinkState) → reply_of h ≡ o → id_in o ≡ Some id → IsCalm (after h l)
made_calm (Some (reply.Subscription (sub_reply.CreateSubscription r))) id h l is e =
    reply_calm h (reply.Subscription (sub_reply.CreateSubscription r)) l is (create_calm r)
made_calm (Some (reply.Subscription other)) id h l is e = absurd cc
made_calm (Some (reply.Session r)) id h l is e = absurd cc
made_calm None id h l is e = absurd cc

pub named_calm : (id : ℕ) (h : Happening) (l : LinkState) → id_in (reply_of h) ≡ Some id → IsCalm (after h l)
named_calm id h l e = made_calm (reply_of h) id h l refl e
