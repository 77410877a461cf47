-- What is acknowledged was heard.
use Rattle.std.proofs.Common.{◌≡◌, ℕ, List, [], ◌∷◌, ◌++◌, map, Bool, true, false, Option, Some, None, Result, Ok, Err, if◌then◌else◌, refl, sym, ap, ◌∙◌, subst, append_assoc, inl, inr}
use Rattle.std.proofs.lemmas.List.{append-nil}
use Rattle.ua_structures.specs.declared.body.BodyFault.{BodyFault}
use Rattle.ua_structures.specs.Body.{body_at}
use Rattle.ua_channel.specs.declared.heard.Heard.{Heard}
use Rattle.ua_channel.specs.declared.heard.Heard.TheVariants as said_of
use Rattle.ua_session_msgs.specs.declared.reply.SessionReply.{SessionReply}
use Rattle.ua_session_msgs.specs.declared.reply.SessionReply.TheVariants as session_reply
use Rattle.ua_sub_msgs.specs.declared.notification.MonitoredItemNotification.{MonitoredItemNotification}
use Rattle.ua_sub_msgs.specs.declared.notification.NotificationMessage.{NotificationMessage}
use Rattle.ua_sub_msgs.specs.declared.publish.SubscriptionAcknowledgement.{SubscriptionAcknowledgement}
use Rattle.ua_sub_msgs.specs.declared.reply.SubReply.{SubReply}
use Rattle.ua_sub_msgs.specs.declared.reply.SubReply.TheVariants as sub_reply
use Rattle.ua_services.specs.declared.reply.Reply.{Reply}
use Rattle.ua_services.specs.declared.reply.Reply.TheVariants as reply
use Rattle.ua_services.specs.Families.{replies}
use Rattle.link_rules.specs.declared.content.Content.{Content}
use Rattle.link_rules.specs.declared.content.Content.TheVariants as content
use Rattle.link_rules.specs.declared.notice.Notice.TheVariants as notice
use Rattle.link_rules.specs.declared.phase.ReadyState.{ReadyState}
use Rattle.link_rules.specs.declared.remembered.Remembered.{Remembered}
use Rattle.link_rules.specs.State.{LinkState}
use Rattle.link_rules.specs.Said.{LinkDid, Said, Told, Limited, Renewed, Greeted, Opens, Asks, nothing, tells}
use Rattle.link_rules.specs.Requests.{acknowledgement, activation_request, channel_request, items_request, level_request, mode_request, probe_request, publish_request, republish_request, session_request_of, subscription_request, transfer_request}
use Rattle.link_rules.specs.Messages.{acknowledged, all_taken, awaits, content_of, data_taken, kept_alive, newest}
use Rattle.link_rules.specs.Numbers.{is_jump, is_next}
use Rattle.link_rules.specs.Step as step_rules
use Rattle.link_rules.specs.Step.{Happening, after, after_all}
use Rattle.link_laws.specs.Taken.{heard_reply, message_in, reply_by, reply_of}
use Rattle.link_laws.specs.Acks.{IsWithin, acks_put, acks_told, all_heard, data_by, data_heard, due, due_of}
use Rattle.link_laws.proofs.Moves.{AreFair, AreSilent, Asking, Channel, Session, Activation, Probe, Transfer, Again, Subscription, Items, Publish, Modes, Level, Renewal, IsFair, IsLeft, IsSilent, Leave, MayAsk, Move, Turns, Falls, Ages, Wishes, Greets, Puts, Enters, Completes, Loses, Makes, Keeps, Brings, Levels, Probed, Answers, Seeks, Sets, Confirms, begun, done, done_all, left, left_asked, leave_heard, leave_in, leave_of, leave_read, told_of}
use Rattle.link_laws.proofs.Opening.{happens}
use Rattle.link_laws.proofs.Plain.{alive_brings, data_brings}
use Rattle.link_laws.proofs.Within.{all_within, none_within, within_join, within_less, within_same, within_trans}

-- ---- what is put

put_join : (one other : List Said) → acks_put (one ++ other) ≡ acks_put one ++ acks_put other
put_join [] other = refl
put_join (said ∷ one) other =
    ap (λ (x : List SubscriptionAcknowledgement). acks_told said.told ++ x) (put_join one other)
    ∙ sym (append_assoc (acks_told said.told) (acks_put one) (acks_put other))

no_acks : (told : Told) → IsSilent told → acks_told told ≡ []
no_acks (Greeted greeting url) h = refl
no_acks (Opens number r) h = refl
no_acks (Asks number r) h = absurd h
no_acks (Limited limits) h = refl
no_acks (Renewed channel token) h = refl

silent_none : (said : List Said) → AreSilent said → acks_put said ≡ []
silent_none [] h = refl
silent_none (one ∷ more) h =
    ap (λ (x : List SubscriptionAcknowledgement). x ++ acks_put more) (no_acks one.told h.0) ∙ silent_none more h.1

abbrev acks_by : Asking → LinkState → List SubscriptionAcknowledgement
acks_by (Publish ready remembered) l = map (acknowledgement remembered.id) l.acks
acks_by other l = []

asks_acks : (a : Asking) (l : LinkState) → acks_told (told_of a l) ≡ acks_by a l
unfolding activation_request channel_request items_request level_request mode_request probe_request publish_request republish_request session_request_of subscription_request transfer_request
asks_acks Channel l = refl
asks_acks Session l = refl
asks_acks Activation l = refl
asks_acks Probe l = refl
asks_acks (Transfer id) l = refl
asks_acks (Again id number wanted) l = refl
asks_acks Subscription l = refl
asks_acks (Items id) l = refl
asks_acks (Publish ready remembered) l = refl
asks_acks (Modes mode ready id) l = refl
asks_acks Level l = refl
asks_acks Renewal l = refl

-- ---- one move

-- what is put, what is due then and what may still be heard are within what was due and might be heard
abbrev open_by : Leave → LinkState → List SubscriptionAcknowledgement
open_by leave l = due l ++ data_heard l.remembered leave.brought

abbrev IsHeard : Leave → LinkState → Leave → LinkDid → Type 0
IsHeard leave l rest did = IsWithin (acks_put did.said ++ open_by rest did.link) (open_by leave l)

-- nothing is put
quiet_heard : (leave : Leave) (l : LinkState) (rest : Leave) (did : LinkDid) → acks_put did.said ≡ [] → IsWithin (open_by rest did.link) (open_by leave l)
    → IsHeard leave l rest did
quiet_heard leave l rest did none_put h =
    subst (λ (x : List SubscriptionAcknowledgement). IsWithin (x ++ open_by rest did.link) (open_by leave l)) (sym none_put) h

-- the subscription is the same, and what may be heard too
same_heard : (leave : Leave) (l : LinkState) (rest : Leave) (did : LinkDid) → acks_put did.said ≡ [] → did.link.remembered ≡ l.remembered
    → did.link.acks ≡ l.acks → rest.brought ≡ leave.brought → IsHeard leave l rest did
same_heard leave l rest did none_put r a b =
    quiet_heard leave l rest did none_put
    (within_same (open_by rest did.link) (open_by leave l)
    (ap (λ o. due_of o did.link.acks ++ data_heard o rest.brought) r
    ∙ ap (λ (x : List ℕ). due_of l.remembered x ++ data_heard l.remembered rest.brought) a
    ∙ ap (λ m. due l ++ data_heard l.remembered m) b))

emptied_by : (o : Option Remembered) (acks : List ℕ) (m : Option NotificationMessage) → IsWithin (due_of o [] ++ data_heard o m) (due_of o acks ++ data_heard o m)
emptied_by None acks m = all_within (data_heard None m)
emptied_by (Some remembered) acks m =
    within_join [] (map (acknowledgement remembered.id) acks) (data_heard (Some remembered) m) (data_heard (Some remembered) m)
    (none_within (map (acknowledgement remembered.id) acks)) (all_within (data_heard (Some remembered) m))

left_heard : (leave : Leave) (l : LinkState) (next : LinkState) → IsLeft l next
    → IsWithin (open_by leave next) (open_by leave l)
left_heard leave l next (inl h) =
    within_same (open_by leave next) (open_by leave l)
    (ap (λ o. due_of o next.acks ++ data_heard o leave.brought) h.0
    ∙ ap (λ (x : List ℕ). due_of l.remembered x ++ data_heard l.remembered leave.brought) h.1)
left_heard leave l next (inr (inl h)) =
    subst (λ o. IsWithin (due_of o next.acks ++ data_heard o leave.brought) (open_by leave l)) (sym h.0)
    (subst (λ (x : List ℕ). IsWithin (due_of l.remembered x ++ data_heard l.remembered leave.brought) (open_by leave l)) (sym h.1)
    (emptied_by l.remembered l.acks leave.brought))
left_heard leave l next (inr (inr h)) =
    subst (λ o. IsWithin (due_of o next.acks ++ data_heard o leave.brought) (open_by leave l)) (sym h.0) (none_within (open_by leave l))

-- ---- messages

heard_same : (o : Option Remembered) (remembered : Remembered) (m : Option NotificationMessage) (message : NotificationMessage) (c : Content) → o ≡ Some remembered
    → m ≡ Some message → content_of message.notification_data ≡ c → data_heard o m ≡ data_by c remembered.id message.sequence_number
heard_same o remembered m message c r b e =
    ap (λ x. data_heard x m) r ∙ ap (λ x. data_heard (Some remembered) x) b
    ∙ ap (λ x. data_by x remembered.id message.sequence_number) e

alive_heard : (number : ℕ) (remembered : Remembered) (l : LinkState) → l.remembered ≡ Some remembered
    → due (kept_alive number remembered l).link ≡ due l
unfolding kept_alive
alive_heard number remembered l r = by_test (is_jump remembered.next number)
  where
    by_test : (b : Bool) → due (if b then tells (notice.Jump ∷ []) (awaits number remembered l) else nothing l).link ≡ due l
    by_test true = sym (ap (λ o. due_of o l.acks) r)
    by_test false = refl

map_more : (id : ℕ) (acks : List ℕ) (number : ℕ) → map (acknowledgement id) (acks ++ number ∷ []) ≡ map (acknowledgement id) acks ++ acknowledgement id number ∷ []
map_more id [] number = refl
map_more id (first ∷ acks) number = ap (λ (x : List SubscriptionAcknowledgement). acknowledgement id first ∷ x) (map_more id acks number)

more_due : (number : ℕ) (remembered : Remembered) (l : LinkState) (o : Option Remembered) → l.remembered ≡ Some remembered → due_of o (l.acks ++ number ∷ []) ≡ due_of (Some remembered) (l.acks ++ number ∷ [])
    → due_of o (l.acks ++ number ∷ []) ≡ due l ++ acknowledgement remembered.id number ∷ []
more_due number remembered l o r same =
    same ∙ map_more remembered.id l.acks number
    ∙ sym (ap (λ x. due_of x l.acks ++ acknowledgement remembered.id number ∷ []) r)

data_due : (number : ℕ) (values : List MonitoredItemNotification) (remembered : Remembered) (l : LinkState) → l.remembered ≡ Some remembered
    → due (data_taken number values remembered l).link ≡ due l ++ acknowledgement remembered.id number ∷ []
unfolding data_taken
data_due number values remembered l r = by_tests (is_next remembered.next number) (is_jump remembered.next number)
  where
    by_tests : (a b : Bool) → due (if a then tells (all_taken l.monitored values) (newest number remembered l)
        else if b then tells (notice.Jump ∷ all_taken l.monitored values) (newest number remembered l)
        else nothing (acknowledged number l)).link ≡ due l ++ acknowledgement remembered.id number ∷ []
    by_tests true b = more_due number remembered l (newest number remembered l).remembered r refl
    by_tests false true = more_due number remembered l (newest number remembered l).remembered r refl
    by_tests false false = more_due number remembered l l.remembered r (ap (λ x. due_of x (l.acks ++ number ∷ [])) r)

-- nothing more is heard
none_heard : (o : Option Remembered) → data_heard o None ≡ []
none_heard None = refl
none_heard (Some remembered) = refl

spent : (l : LinkState) (leave : Leave) → leave.brought ≡ None → open_by leave l ≡ due l
spent l leave e =
    ap (λ m. due l ++ data_heard l.remembered m) e ∙ ap (λ (x : List SubscriptionAcknowledgement). due l ++ x) (none_heard l.remembered)
    ∙ append-nil (due l)

-- ---- moves

begun_left : (a : Asking) (leave : Leave) (l : LinkState) → MayAsk leave a l → IsLeft l (begun a l)
begun_left Subscription leave l h = inr (inr (refl, refl, refl))
begun_left (Publish ready remembered) leave l h = inr (inl (refl, refl, refl))
begun_left Channel leave l h = inl (refl, refl, refl)
begun_left Session leave l h = inl (refl, refl, refl)
begun_left Activation leave l h = inl (refl, refl, refl)
begun_left Probe leave l h = inl (refl, refl, refl)
begun_left (Transfer id) leave l h = inl (refl, refl, refl)
begun_left (Again id number wanted) leave l h = inl (refl, refl, refl)
begun_left (Items id) leave l h = inl (refl, refl, refl)
begun_left (Modes mode ready id) leave l h = inl (refl, refl, refl)
begun_left Level leave l h = inl (refl, refl, refl)
begun_left Renewal leave l h = inl (refl, refl, refl)

abbrev IsNoPublish : Asking → Type 0
IsNoPublish (Publish ready remembered) = ⊥
IsNoPublish other = Unit {0}

left_brought : (a : Asking) (leave : Leave) → (left_asked a leave).brought ≡ leave.brought
left_brought (Items id) leave = refl
left_brought other leave = refl

one_put : (a : Asking) (l : LinkState) → acks_put (done (Puts a) l).said ≡ acks_by a l
one_put a l = append-nil (acks_told (told_of a l)) ∙ asks_acks a l

other_put : (leave : Leave) (a : Asking) (l : LinkState) → MayAsk leave a l → acks_by a l ≡ [] → IsHeard leave l (left_asked a leave) (done (Puts a) l)
other_put leave a l may none_put =
    quiet_heard leave l (left_asked a leave) (done (Puts a) l) (one_put a l ∙ none_put)
    (subst (λ m. IsWithin (due (begun a l) ++ data_heard (begun a l).remembered m) (open_by leave l)) (sym (left_brought a leave))
    (left_heard leave l (begun a l) (begun_left a leave l may)))

publish_put : (leave : Leave) (ready : ReadyState) (remembered : Remembered) (l : LinkState) → l.remembered ≡ Some remembered
    → IsHeard leave l leave (done (Puts (Publish ready remembered)) l)
publish_put leave ready remembered l r =
    let list : List SubscriptionAcknowledgement = map (acknowledgement remembered.id) l.acks in
    subst (λ (x : List SubscriptionAcknowledgement). IsWithin (x ++ open_by leave (begun (Publish ready remembered) l)) (open_by leave l))
    (sym (one_put (Publish ready remembered) l))
    (subst (λ o. IsWithin (list ++ (due_of o [] ++ data_heard o leave.brought)) (due_of o l.acks ++ data_heard o leave.brought)) (sym r)
    (all_within (list ++ data_heard (Some remembered) leave.brought)))

puts_heard : (leave : Leave) (a : Asking) (l : LinkState) → MayAsk leave a l → IsHeard leave l (left_asked a leave) (done (Puts a) l)
puts_heard leave (Publish ready remembered) l h = publish_put leave ready remembered l h.1
puts_heard leave Channel l h = other_put leave Channel l h refl
puts_heard leave other l h = other_put leave other l h refl

move_heard : (leave : Leave) (move : Move) (l : LinkState) → IsFair leave move l → IsHeard leave l (left move leave) (done move l)
move_heard leave (Turns did) l h = same_heard leave l leave did (silent_none did.said h.silent) h.same.remembered h.same.acks refl
move_heard leave (Falls did) l h = quiet_heard leave l leave did (ap acks_put h.said) (left_heard leave l did.link h.left)
move_heard leave (Ages ms) l h = same_heard leave l (left (Ages ms) leave) (done (Ages ms) l) refl refl refl refl
move_heard leave Wishes l h = same_heard leave l (left Wishes leave) (done Wishes l) refl refl refl refl
move_heard leave (Greets url) l h = same_heard leave l leave (done (Greets url) l) refl refl refl refl
move_heard leave (Puts a) l h = puts_heard leave a l h.0
move_heard leave (Sets mode ready id) l h = other_put leave (Modes mode ready id) l h refl
move_heard leave (Confirms setting ready) l h = same_heard leave l leave (done (Confirms setting ready) l) refl refl refl refl
move_heard leave (Enters confirmed) l h = same_heard leave l leave (done (Enters confirmed) l) refl refl refl refl
move_heard leave (Completes confirmed items) l h = same_heard leave l leave (done (Completes confirmed items) l) refl refl refl refl
move_heard leave Loses l h = none_within (open_by leave l)
move_heard leave (Makes id) l h =
    subst (λ (x : List SubscriptionAcknowledgement). IsWithin x (open_by leave l)) (sym (spent (done (Makes id) l).link (record leave { born = None }) h.2)) (none_within (open_by leave l))
move_heard leave (Keeps number remembered) l h =
    let brought = h.1 in
    let next : LinkState = (done (Keeps number remembered) l).link in
    let none_more : data_heard l.remembered leave.brought ≡ [] =
    heard_same l.remembered remembered leave.brought h.0 content.Alive brought.remembers brought.brings h.2 in
    let before : open_by leave l ≡ due l =
    ap (λ (x : List SubscriptionAcknowledgement). due l ++ x) none_more ∙ append-nil (due l) in
    quiet_heard leave l (left (Keeps number remembered) leave) (done (Keeps number remembered) l)
    (ap acks_put (alive_brings number remembered l).said)
    (within_same (open_by (left (Keeps number remembered) leave) next) (open_by leave l)
    (spent next (left (Keeps number remembered) leave) refl ∙ alive_heard number remembered l brought.remembers ∙ sym before))
move_heard leave (Brings number values remembered) l h =
    let brought = h.1 in
    let next : LinkState = (done (Brings number values remembered) l).link in
    let one_more : data_heard l.remembered leave.brought ≡ acknowledgement remembered.id h.0.sequence_number ∷ [] =
    heard_same l.remembered remembered leave.brought h.0 (content.Values values) brought.remembers brought.brings h.2 in
    let before : open_by leave l ≡ due l ++ acknowledgement remembered.id number ∷ [] =
    ap (λ (x : List SubscriptionAcknowledgement). due l ++ x) one_more
    ∙ ap (λ n. due l ++ acknowledgement remembered.id n ∷ []) brought.numbers in
    quiet_heard leave l (left (Brings number values remembered) leave) (done (Brings number values remembered) l)
    (ap acks_put (data_brings number values remembered l).said)
    (within_same (open_by (left (Brings number values remembered) leave) next) (open_by leave l)
    (spent next (left (Brings number values remembered) leave) refl ∙ data_due number values remembered l brought.remembers ∙ sym before))
move_heard leave (Levels level) l h = same_heard leave l (left (Levels level) leave) (done (Levels level) l) refl refl refl refl
move_heard leave (Probed level) l h = same_heard leave l (left (Probed level) leave) (done (Probed level) l) refl refl refl refl
move_heard leave (Answers ready publishes since) l h =
    same_heard leave l (left (Answers ready publishes since) leave) (done (Answers ready publishes since) l) refl refl refl refl
move_heard leave (Seeks mode ready) l h = same_heard leave l (left (Seeks mode ready) leave) (done (Seeks mode ready) l) refl refl refl refl

moves_heard : (leave : Leave) (moves : List Move) (l : LinkState) → AreFair leave moves l
    → IsWithin (acks_put (done_all moves l).said ++ due (done_all moves l).link) (open_by leave l)
moves_heard leave [] l h = within_less (due l) (due l) (data_heard l.remembered leave.brought) (all_within (due l))
moves_heard leave (move ∷ moves) l h =
    let did : LinkDid = done move l in
    let next : LinkDid = done_all moves did.link in
    let rest : IsWithin (acks_put next.said ++ due next.link) (open_by (left move leave) did.link) = moves_heard (left move leave) moves did.link h.1 in
    subst (λ (x : List SubscriptionAcknowledgement). IsWithin (x ++ due next.link) (open_by leave l)) (sym (put_join did.said next.said))
    (subst (λ (x : List SubscriptionAcknowledgement). IsWithin x (open_by leave l)) (sym (append_assoc (acks_put did.said) (acks_put next.said) (due next.link)))
    (within_trans (acks_put did.said ++ (acks_put next.said ++ due next.link)) (acks_put did.said ++ open_by (left move leave) did.link) (open_by leave l)
    (within_join (acks_put did.said) (acks_put did.said) (acks_put next.said ++ due next.link) (open_by (left move leave) did.link)
    (all_within (acks_put did.said)) rest)
    (move_heard leave move l h.0)))

-- ---- events

session_message : (r : SessionReply) → (leave_in (Some (reply.Session r))).brought ≡ message_in (Some (reply.Session r))
session_message (session_reply.ServiceFault h) = refl
session_message (session_reply.Read r) = refl
session_message other = refl

sub_message : (r : SubReply) → (leave_in (Some (reply.Subscription r))).brought ≡ message_in (Some (reply.Subscription r))
sub_message (sub_reply.CreateSubscription r) = refl
sub_message (sub_reply.Publish r) = refl
sub_message (sub_reply.Republish r) = refl
sub_message other = refl

read_message : (result : Result Reply BodyFault) → (leave_read result).brought ≡ message_in (reply_by result)
read_message (Ok (reply.Session r)) = session_message r
read_message (Ok (reply.Subscription r)) = sub_message r
read_message (Err fault) = refl

heard_message : (h : Heard) → (leave_heard h).brought ≡ message_in (heard_reply h)
heard_message (said_of.Message number body) = read_message (body_at replies body)
heard_message other = refl

pub event_message : (h : Happening) → (leave_of h).brought ≡ message_in (reply_of h)
event_message (step_rules.Hears heard) = heard_message heard
event_message (step_rules.Ticks ms) = refl
event_message (step_rules.Wants mode) = refl
event_message step_rules.Dials = refl
event_message other = refl

event_heard : (h : Happening) (l : LinkState) → IsWithin (acks_put (after h l).said ++ due (after h l).link) (due l ++ data_heard l.remembered (message_in (reply_of h)))
event_heard h l =
    let comes = happens h l in
    subst (λ m. IsWithin (acks_put (after h l).said ++ due (after h l).link) (due l ++ data_heard l.remembered m)) (event_message h)
    (subst (λ (d : LinkDid). IsWithin (acks_put d.said ++ due d.link) (open_by (leave_of h) l)) (sym comes.is)
    (moves_heard (leave_of h) comes.moves l comes.fair))

pub acknowledged_were_heard : (happenings : List Happening) (l : LinkState)
    → IsWithin (acks_put (after_all happenings l).said ++ due (after_all happenings l).link) (due l ++ all_heard happenings l)
acknowledged_were_heard [] l = within_same (due l) (due l ++ []) (sym (append-nil (due l)))
acknowledged_were_heard (h ∷ more) l =
    let did : LinkDid = after h l in
    let next : LinkDid = after_all more did.link in
    let heard : List SubscriptionAcknowledgement = data_heard l.remembered (message_in (reply_of h)) in
    let later : List SubscriptionAcknowledgement = all_heard more did.link in
    let one : IsWithin (acks_put did.said ++ due did.link) (due l ++ heard) = event_heard h l in
    let rest : IsWithin (acks_put next.said ++ due next.link) (due did.link ++ later) = acknowledged_were_heard more did.link in
    subst (λ (x : List SubscriptionAcknowledgement). IsWithin (x ++ due next.link) (due l ++ (heard ++ later))) (sym (put_join did.said next.said))
    (subst (λ (x : List SubscriptionAcknowledgement). IsWithin x (due l ++ (heard ++ later))) (sym (append_assoc (acks_put did.said) (acks_put next.said) (due next.link)))
    (within_trans (acks_put did.said ++ (acks_put next.said ++ due next.link)) (acks_put did.said ++ (due did.link ++ later)) (due l ++ (heard ++ later))
    (within_join (acks_put did.said) (acks_put did.said) (acks_put next.said ++ due next.link) (due did.link ++ later) (all_within (acks_put did.said)) rest)
    (subst (λ (x : List SubscriptionAcknowledgement). IsWithin x (due l ++ (heard ++ later))) (append_assoc (acks_put did.said) (due did.link) later)
    (subst (λ (x : List SubscriptionAcknowledgement). IsWithin (acks_put did.said ++ due did.link ++ later) x) (append_assoc (due l) heard later)
    (within_join (acks_put did.said ++ due did.link) (due l ++ heard) later later one (all_within later))))))
