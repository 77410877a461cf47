-- The messages that were missed are asked for, one after another.
use Rattle.std.proofs.Common.{◌≡◌, ◌<◌, ◌+◌, ◌==◌, ◌^◌, ◌||◌, ℕ, List, [], ◌∷◌, ◌++◌, length, Bool, true, false, nat_le, Option, Some, None, Ok, if◌then◌else◌, refl, sym, ap, ◌∙◌, subst, arith, ◌⊎◌, inl, inr}
use Rattle.ua_base.specs.declared.modes.Mode.{Mode}
use Rattle.ua_base.specs.Number.{after_message}
use Rattle.ua_base.specs.Status.{bad_message_not_available}
use Rattle.ua_structures.specs.declared.header.ResponseHeader.{ResponseHeader}
use Rattle.ua_structures.specs.Body.{body_at}
use Rattle.ua_channel.specs.declared.ear.Ear.TheVariants as ear
use Rattle.ua_channel.specs.declared.heard.Heard.TheVariants as said_of
use Rattle.ua_channel.specs.State.{is_deaf}
use Rattle.ua_session_msgs.specs.declared.reply.SessionReply.TheVariants as session_reply
use Rattle.ua_sub_msgs.specs.declared.notification.MonitoredItemNotification.{MonitoredItemNotification}
use Rattle.ua_sub_msgs.specs.declared.publish.RepublishResponse.{RepublishResponse}
use Rattle.ua_sub_msgs.specs.declared.subscription.TransferSubscriptionsResponse.{TransferSubscriptionsResponse}
use Rattle.ua_sub_msgs.specs.declared.reply.SubReply.TheVariants as sub_reply
use Rattle.ua_services.specs.declared.reply.Reply.{Reply}
use Rattle.ua_services.specs.declared.reply.Reply.TheVariants as reply
use Rattle.ua_services.specs.Families.{replies, written_request}
use Rattle.link_rules.specs.declared.content.Content.TheVariants as content
use Rattle.link_rules.specs.declared.notice.Notice.TheVariants as notice
use Rattle.link_rules.specs.declared.phase.Phase.{Phase}
use Rattle.link_rules.specs.declared.phase.Phase.TheVariants as phase
use Rattle.link_rules.specs.declared.phase.ReadyState.{ReadyState}
use Rattle.link_rules.specs.declared.remembered.Remembered.{Remembered}
use Rattle.link_rules.specs.State.{LinkState, is_ready, ready_in, with_phase}
use Rattle.link_rules.specs.Said.{LinkDid, Said, Asks, and_then, nothing, tells}
use Rattle.link_rules.specs.Closing.{broken, left_in}
use Rattle.link_rules.specs.Asking.{asked, is_answer, is_fault, next_request, numbered}
use Rattle.link_rules.specs.Requests.{publish_request, republish_request}
use Rattle.link_rules.specs.Messages.{acknowledged, all_taken, content_of, data_taken, newest}
use Rattle.link_rules.specs.Numbers.{is_jump, is_next, wanted_of}
use Rattle.link_rules.specs.Publishing.{enters_ready, fills, has_room, new_ready, published, publishes, publishes_in, with_publish}
use Rattle.link_rules.specs.Subscribing.{asks_again, available_of, brings_again, goes_on, goes_on_by, in_republishing, in_transferring, message_again, transferred, transfers_by, wanted_in}
use Rattle.link_rules.specs.Step as step_rules
use Rattle.link_rules.specs.Step.{Hears, after}
use Rattle.link_laws.specs.Missed.{AsksFor, GoesOn, IsAsking, IsBehind, missed_put}
use Rattle.link_laws.proofs.Running.{old_former, same_of, small_after}

-- ---- what is remembered while the link becomes ready

-- a link that is ready or has fallen, and remembers this
record IsSettled (o : Option Remembered) (l : LinkState) : Type 0 where
  pub phase : (l.phase ≡ phase.Idle) ⊎ (is_ready l ≡ true)
  pub same : l.remembered ≡ o

kept_by : (p : Phase) (l : LinkState) → (p ≡ phase.Adding → ⊥) → (left_in p l).remembered ≡ l.remembered
kept_by phase.Adding l h = absurd (h refl)
kept_by phase.Idle l h = refl
kept_by other l h = refl

broken_keeps : (l : LinkState) → (l.phase ≡ phase.Adding → ⊥) → (broken l).link.remembered ≡ l.remembered
unfolding broken
broken_keeps l h = kept_by l.phase l h

broken_idle : (l : LinkState) → (broken l).link.phase ≡ phase.Idle
unfolding broken
broken_idle l = refl

published_by : (ready : ReadyState) (remembered : Remembered) (o : Option Remembered) (l : LinkState) → l.remembered ≡ o
    → IsSettled o (published ready remembered l).link
unfolding published asked
published_by ready remembered o l same =
    by_fit (nat_le (length (written_request (publish_request remembered.id l))) (with_publish ready l).conversation.limit)
  where
    by_fit : (b : Bool) → IsSettled o (if b then numbered (Asks (next_request (with_publish ready l)) (publish_request remembered.id l)) (with_publish ready l)
        else broken (with_publish ready l)).link
    by_fit true = record { phase = inr refl; same = same }
    by_fit false = record {
      phase = inl (broken_idle (with_publish ready l));
      same = broken_keeps (with_publish ready l) (λ e. absurd cc) ∙ same;
    }

publish_by : (x : Option ReadyState) (r o : Option Remembered) (l : LinkState) → IsSettled o l → IsSettled o (publishes_in x r l).link
publish_by None r o l h = h
publish_by (Some ready) None o l h = h
publish_by (Some ready) (Some remembered) o l h = by_room (has_room ready.publishes)
  where
    by_room : (b : Bool) → IsSettled o (if b then published ready remembered l else nothing l).link
    by_room true = published_by ready remembered o l h.same
    by_room false = h

publish_settled : (o : Option Remembered) (l : LinkState) → IsSettled o l → IsSettled o (publishes l).link
unfolding publishes
publish_settled o l h = publish_by (ready_in l.phase) l.remembered o l h

enters_settled : (confirmed : Option Mode) (l : LinkState) → IsSettled l.remembered (enters_ready confirmed l).link
unfolding enters_ready fills
enters_settled confirmed l =
    let next : LinkState = with_phase (phase.Ready (new_ready confirmed)) l in
    publish_settled l.remembered (publishes next).link (publish_settled l.remembered next (record { phase = inr refl; same = refl }))

-- ---- the messages that are wanted

-- what is asked, and that the same is remembered
record IsGone (wanted : List ℕ) (remembered : Remembered) (did : LinkDid) : Type 0 where
  pub asks : (did.link.phase ≡ phase.Idle) ⊎ IsAsking wanted remembered.id did
  pub is : did.link.remembered ≡ Some remembered

missed_is : (id number : ℕ) (l : LinkState) (n channel token : ℕ)
    → AsksFor id number (missed_put (record { channel = channel; token = token; told = Asks n (republish_request id number l) } ∷ []))
unfolding republish_request
missed_is id number l n channel token = record { one = _; put = refl; subscription = refl; message = refl }

again_by : (numbers : List ℕ) (remembered : Remembered) (l : LinkState) → l.remembered ≡ Some remembered
    → IsGone numbers remembered (asks_again numbers remembered l)
unfolding asks_again asked
again_by [] remembered l e =
    let settled : IsSettled l.remembered (enters_ready None l).link = enters_settled None l in
    record { asks = settled.phase; is = settled.same ∙ e }
again_by (number ∷ wanted) remembered l e =
    by_fit (nat_le (length (written_request (republish_request remembered.id number l))) (with_phase (phase.Republishing wanted) l).conversation.limit)
  where
    by_fit : (b : Bool) → IsGone (number ∷ wanted) remembered
        (if b then numbered (Asks (next_request (with_phase (phase.Republishing wanted) l)) (republish_request remembered.id number l)) (with_phase (phase.Republishing wanted) l)
        else broken (with_phase (phase.Republishing wanted) l))
    by_fit true = record {
      asks = inr (refl, missed_is remembered.id number l (next_request (with_phase (phase.Republishing wanted) l)) l.conversation.channel l.conversation.token);
      is = e;
    }
    by_fit false = record {
      asks = inl (broken_idle (with_phase (phase.Republishing wanted) l));
      is = broken_keeps (with_phase (phase.Republishing wanted) l) (λ a. absurd cc) ∙ e;
    }

goes_by : (wanted : List ℕ) (remembered : Remembered) (l : LinkState) → l.phase ≡ phase.Republishing wanted → l.remembered ≡ Some remembered
    → IsGone wanted remembered (goes_on l)
unfolding goes_on
goes_by wanted remembered l p e =
    subst (λ x. IsGone wanted remembered (goes_on_by (wanted_in x) l.remembered l)) (sym p)
    (subst (λ o. IsGone wanted remembered (goes_on_by (Some wanted) o l)) (sym e) (again_by wanted remembered l e))

asking_by : (wanted : List ℕ) (one other : ℕ) (did : LinkDid) → one ≡ other → IsAsking wanted one did → IsAsking wanted other did
asking_by wanted one other did e h = subst (λ id. IsAsking wanted id did) e h

either_asks : (wanted : List ℕ) (one other : ℕ) (did : LinkDid) → one ≡ other → (did.link.phase ≡ phase.Idle) ⊎ IsAsking wanted one did
    → (did.link.phase ≡ phase.Idle) ⊎ IsAsking wanted other did
either_asks wanted one other did e (inl h) = inl h
either_asks wanted one other did e (inr h) = inr (asking_by wanted one other did e h)

gone_on : (wanted : List ℕ) (remembered former : Remembered) (did : LinkDid) → remembered.id ≡ former.id → IsGone wanted remembered did
    → GoesOn wanted former did
gone_on wanted remembered former did id h = record {
  asks = either_asks wanted remembered.id former.id did id h.asks;
  later = remembered;
  is = h.is;
  id = id;
}

-- ---- a message that is said again

record IsHeld (number : ℕ) (wanted : List ℕ) (former : Remembered) (did : LinkDid) : Type 0 where
  pub said : did.said ≡ []
  pub phase : did.link.phase ≡ phase.Republishing wanted
  pub later : Remembered
  pub is : did.link.remembered ≡ Some later
  pub id : later.id ≡ former.id
  pub behind : number < later.next

data_held : (number : ℕ) (values : List MonitoredItemNotification) (wanted : List ℕ) (r : Remembered) (l : LinkState) → number < 2147483648
    → l.phase ≡ phase.Republishing wanted → l.remembered ≡ Some r → IsHeld number wanted r (data_taken number values r l)
unfolding data_taken
data_held number values wanted r l small p e = by_tests (is_next r.next number) (is_jump r.next number) refl refl
  where
    newer : number < after_message number
    newer = let more : after_message number ≡ number + 1 = small_after number small in omega (arith, more)

    none_new : (a b : Bool) → a ≡ false → b ≡ false → (a || b) ≡ false
    none_new a b x y = ap (λ z. z || b) x ∙ y

    by_tests : (a b : Bool) → is_next r.next number ≡ a → is_jump r.next number ≡ b → IsHeld number wanted r
        (if a then tells (all_taken l.monitored values) (newest number r l)
        else if b then tells (notice.Jump ∷ all_taken l.monitored values) (newest number r l)
        else nothing (acknowledged number l))
    by_tests true b x y =
        record { said = refl; phase = p; later = record r { next = after_message number }; is = refl; id = refl; behind = newer }
    by_tests false true x y =
        record { said = refl; phase = p; later = record r { next = after_message number }; is = refl; id = refl; behind = newer }
    by_tests false false x y = record {
      said = refl;
      phase = p;
      later = r;
      is = e;
      id = refl;
      behind = old_former r.next number small (none_new (is_next r.next number) (is_jump r.next number) x y);
    }

-- nothing is said before
joined_gone : (wanted : List ℕ) (remembered : Remembered) (did next : LinkDid) → did.said ≡ [] → IsGone wanted remembered next
    → IsGone wanted remembered (record { link = next.link; said = did.said ++ next.said; notices = did.notices ++ next.notices })
joined_gone wanted remembered did next none_said h =
    subst (λ (x : List Said). IsGone wanted remembered (record { link = next.link; said = x ++ next.said; notices = did.notices ++ next.notices }))
    (sym none_said) (record { asks = by_asks wanted h.asks; is = h.is })
  where
    by_asks : (list : List ℕ) → (next.link.phase ≡ phase.Idle) ⊎ IsAsking list remembered.id next
        → (next.link.phase ≡ phase.Idle)
        ⊎ IsAsking list remembered.id (record { link = next.link; said = next.said; notices = did.notices ++ next.notices })
    by_asks list (inl e) = inl e
    by_asks [] (inr e) = inr e
    by_asks (number ∷ more) (inr e) = inr e

after_held : (number : ℕ) (wanted : List ℕ) (former : Remembered) (did : LinkDid) → IsHeld number wanted former did
    → IsBehind number wanted former (and_then goes_on did)
unfolding gone_on
after_held number wanted former did h = record {
  goes = gone_on wanted h.later former (and_then goes_on did) h.id
      (joined_gone wanted h.later did (goes_on did.link) h.said (goes_by wanted h.later did.link h.phase h.is));
  behind = h.behind;
}

-- ---- replies

replied_is : (number : ℕ) (body : List ℕ) (r : Reply) (p : Phase) (l : LinkState) → l.closes ≡ false → l.phase ≡ p → is_deaf (step_rules.ear_in p) ≡ false
    → body_at replies body ≡ Ok r → after (Hears (said_of.Message number body)) l ≡ step_rules.replied_in p r l
unfolding step_rules.heard step_rules.replied
replied_is number body r p l open_is phase_is hears is =
    let deaf : is_deaf (step_rules.ear_of l) ≡ false =
    ap (λ b. is_deaf (if b then ear.Deaf else step_rules.ear_in l.phase)) open_is ∙ ap (λ x. is_deaf (step_rules.ear_in x)) phase_is ∙ hears in
    ap (λ b. if b then nothing l else step_rules.replied_by (body_at replies body) l) deaf
    ∙ ap (λ x. step_rules.replied_by x l) is ∙ ap (λ x. step_rules.replied_in x r l) phase_is

in_again : (values : List MonitoredItemNotification) (wanted : List ℕ) (r : RepublishResponse) (remembered : Remembered) (l : LinkState)
    → l.phase ≡ phase.Republishing wanted → l.remembered ≡ Some remembered → is_answer r.response_header l ≡ true
    → content_of r.notification_message.notification_data ≡ content.Values values → r.notification_message.sequence_number < 2147483648
    → IsBehind r.notification_message.sequence_number wanted remembered (in_republishing (reply.Subscription (sub_reply.Republish r)) l)
unfolding in_republishing message_again brings_again
in_again values wanted r remembered l p e answers has small =
    let number : ℕ = r.notification_message.sequence_number in
    subst (λ b. IsBehind number wanted remembered (if b then message_again r.notification_message l.remembered l else broken l)) (sym answers)
    (subst (λ o. IsBehind number wanted remembered (message_again r.notification_message o l)) (sym e)
    (subst (λ c. IsBehind number wanted remembered (and_then goes_on (brings_again c number remembered l))) (sym has)
    (after_held number wanted remembered (data_taken number values remembered l) (data_held number values wanted remembered l small p e))))

pub missed_are_behind : (number : ℕ) (body wanted : List ℕ) (values : List MonitoredItemNotification) (r : RepublishResponse) (remembered : Remembered) (l : LinkState)
    → l.closes ≡ false → l.phase ≡ phase.Republishing wanted → l.remembered ≡ Some remembered
    → body_at replies body ≡ Ok (reply.Subscription (sub_reply.Republish r)) → is_answer r.response_header l ≡ true
    → content_of r.notification_message.notification_data ≡ content.Values values → r.notification_message.sequence_number < 2 ^ 31
    → IsBehind r.notification_message.sequence_number wanted remembered (after (Hears (said_of.Message number body)) l)
missed_are_behind number body wanted values r remembered l open_is p e is answers has small =
    subst (IsBehind r.notification_message.sequence_number wanted remembered)
    (sym (replied_is number body (reply.Subscription (sub_reply.Republish r)) (phase.Republishing wanted) l open_is p refl is))
    (in_again values wanted r remembered l p e answers has small)

in_fault : (wanted : List ℕ) (h : ResponseHeader) (remembered : Remembered) (l : LinkState) → l.phase ≡ phase.Republishing wanted
    → l.remembered ≡ Some remembered → is_fault l.conversation.last bad_message_not_available h ≡ true
    → GoesOn wanted remembered (in_republishing (reply.Session (session_reply.ServiceFault h)) l)
unfolding in_republishing
in_fault wanted h remembered l p e faults =
    subst (λ b. GoesOn wanted remembered (if b then goes_on l else broken l)) (sym faults)
    (gone_on wanted remembered remembered (goes_on l) refl (goes_by wanted remembered l p e))

pub lost_are_skipped : (number : ℕ) (body wanted : List ℕ) (h : ResponseHeader) (remembered : Remembered) (l : LinkState)
    → l.closes ≡ false → l.phase ≡ phase.Republishing wanted → l.remembered ≡ Some remembered
    → body_at replies body ≡ Ok (reply.Session (session_reply.ServiceFault h)) → is_fault l.conversation.last bad_message_not_available h ≡ true
    → GoesOn wanted remembered (after (Hears (said_of.Message number body)) l)
lost_are_skipped number body wanted h remembered l open_is p e is faults =
    subst (GoesOn wanted remembered)
    (sym (replied_is number body (reply.Session (session_reply.ServiceFault h)) (phase.Republishing wanted) l open_is p refl is))
    (in_fault wanted h remembered l p e faults)

in_transfer : (available : List ℕ) (r : TransferSubscriptionsResponse) (remembered : Remembered) (l : LinkState) → l.remembered ≡ Some remembered
    → (r.response_header.request_handle == l.conversation.last) ≡ true → available_of r ≡ Some available
    → GoesOn (wanted_of remembered.next available) remembered (in_transferring (reply.Subscription (sub_reply.TransferSubscriptions r)) l)
unfolding in_transferring transferred
in_transfer available r remembered l e answers has =
    subst (λ b. GoesOn (wanted_of remembered.next available) remembered (if b then transfers_by (available_of r) l.remembered l else broken l)) (sym answers)
    (subst (λ a. GoesOn (wanted_of remembered.next available) remembered (transfers_by a l.remembered l)) (sym has)
    (subst (λ o. GoesOn (wanted_of remembered.next available) remembered (transfers_by (Some available) o l)) (sym e)
    (gone_on (wanted_of remembered.next available) remembered remembered (asks_again (wanted_of remembered.next available) remembered l) refl
    (again_by (wanted_of remembered.next available) remembered l e))))

pub kept_are_wanted : (number : ℕ) (body available : List ℕ) (r : TransferSubscriptionsResponse) (remembered : Remembered) (l : LinkState)
    → l.closes ≡ false → l.phase ≡ phase.Transferring → l.remembered ≡ Some remembered
    → body_at replies body ≡ Ok (reply.Subscription (sub_reply.TransferSubscriptions r)) → r.response_header.request_handle ≡ l.conversation.last
    → available_of r ≡ Some available
    → GoesOn (wanted_of remembered.next available) remembered (after (Hears (said_of.Message number body)) l)
kept_are_wanted number body available r remembered l open_is p e is answers has =
    subst (GoesOn (wanted_of remembered.next available) remembered)
    (sym (replied_is number body (reply.Subscription (sub_reply.TransferSubscriptions r)) phase.Transferring l open_is p refl is))
    (in_transfer available r remembered l e (same_of r.response_header.request_handle l.conversation.last answers) has)
