-- When a reply that brings a message of a subscription is taken.
use Rattle.std.proofs.Common.{◌≡◌, ℕ, List, ◌==◌, ◌&&◌, Bool, true, false, Option, Some, None, if◌then◌else◌, refl, sym, ap, ◌∙◌, arith, ◌⊎◌, inl, inr}
use Rattle.std.proofs.lemmas.Bool.Decides.{nat_tests}
use Rattle.ua_sub_msgs.specs.declared.publish.PublishResponse.{PublishResponse}
use Rattle.ua_sub_msgs.specs.declared.publish.RepublishResponse.{RepublishResponse}
use Rattle.ua_sub_msgs.specs.declared.reply.SubReply.TheVariants as sub_reply
use Rattle.ua_services.specs.declared.reply.Reply.TheVariants as reply
use Rattle.link_rules.specs.declared.phase.Phase.{Phase}
use Rattle.link_rules.specs.declared.phase.Phase.TheVariants as phase
use Rattle.link_rules.specs.declared.phase.Publishes.{Publishes}
use Rattle.link_rules.specs.declared.phase.ReadyState.{ReadyState}
use Rattle.link_rules.specs.declared.remembered.Remembered.{Remembered}
use Rattle.link_rules.specs.State.{LinkState}
use Rattle.link_rules.specs.Closing.{broken}
use Rattle.link_rules.specs.Asking.{is_answer, is_good}
use Rattle.link_rules.specs.Ready as ready_rules
use Rattle.link_rules.specs.Starting as start_rules
use Rattle.link_rules.specs.Subscribing as sub_rules
use Rattle.link_rules.specs.Step as step_rules

-- ---- Publish

-- the response is good and of the subscription that is remembered
abbrev pub IsOwn : PublishResponse → LinkState → Type 0
IsOwn r l = (is_good r.response_header.service_result ≡ true)
    × ((remembered : Remembered) → l.remembered ≡ Some remembered → r.subscription_id ≡ remembered.id)

first_of_both : (a b : Bool) → (a && b) ≡ true → a ≡ true
first_of_both true b e = refl
first_of_both false b e = absurd cc

second_of_both : (a b : Bool) → (a && b) ≡ true → b ≡ true
second_of_both true b e = e
second_of_both false b e = absurd cc

same_id : (one other : ℕ) → (one == other) ≡ true → one ≡ other
same_id one other e = grind (arith, nat_tests)

some_same : (one other : Remembered) → Some one ≡ Some other → one ≡ other
some_same one other e = cc

own_by : (r : PublishResponse) (remembered : Remembered) (l : LinkState) → l.remembered ≡ Some remembered
    → (is_good r.response_header.service_result && (r.subscription_id == remembered.id)) ≡ true → IsOwn r l
own_by r remembered l e test = (
  first_of_both _ _ test,
  λ other is. same_id _ _ (second_of_both _ _ test) ∙ ap (λ (x : Remembered). x.id) (some_same remembered other (sym e ∙ is)),
)

by_test : (r : PublishResponse) (ready : ReadyState) (left : Publishes) (remembered : Remembered) (l : LinkState) (b : Bool)
    → (is_good r.response_header.service_result && (r.subscription_id == remembered.id)) ≡ b → l.remembered ≡ Some remembered
    → IsOwn r l ⊎ ((if b then ready_rules.message_brings r.notification_message remembered (ready_rules.heard_of_it left ready l) else broken l) ≡ broken l)
by_test r ready left remembered l true test e = inl (own_by r remembered l e test)
by_test r ready left remembered l false test e = inr refl

published_by : (o : Option Publishes) (remembered : Option Remembered) (r : PublishResponse) (ready : ReadyState) (l : LinkState) → l.remembered ≡ remembered
    → IsOwn r l ⊎ (ready_rules.publish_replied_by o remembered r ready l ≡ broken l)
unfolding ready_rules.publish_replied_by
published_by None remembered r ready l e = inr refl
published_by (Some left) None r ready l e = inr refl
published_by (Some left) (Some remembered) r ready l e =
    by_test r ready left remembered l (is_good r.response_header.service_result && (r.subscription_id == remembered.id)) refl e

published : (r : PublishResponse) (ready : ReadyState) (l : LinkState)
    → IsOwn r l ⊎ (ready_rules.in_ready (reply.Subscription (sub_reply.Publish r)) ready l ≡ broken l)
unfolding ready_rules.in_ready ready_rules.publish_replied
published r ready l = published_by (ready_rules.answered r.response_header.request_handle ready.publishes) l.remembered r ready l refl

pub publish_in : (p : Phase) (r : PublishResponse) (l : LinkState)
    → IsOwn r l ⊎ (step_rules.replied_in p (reply.Subscription (sub_reply.Publish r)) l ≡ broken l)
unfolding start_rules.in_creating start_rules.in_activating start_rules.in_probing sub_rules.in_transferring sub_rules.in_republishing sub_rules.in_subscribing sub_rules.in_adding
publish_in phase.Idle r l = inr refl
publish_in (phase.Dialing taken) r l = inr refl
publish_in phase.Hello r l = inr refl
publish_in phase.Opening r l = inr refl
publish_in phase.Creating r l = inr refl
publish_in phase.Activating r l = inr refl
publish_in phase.Probing r l = inr refl
publish_in phase.Transferring r l = inr refl
publish_in (phase.Republishing wanted) r l = inr refl
publish_in phase.Subscribing r l = inr refl
publish_in phase.Adding r l = inr refl
publish_in (phase.Ready ready) r l = published r ready l

-- ---- Republish

-- the response is good, and one is awaited
abbrev pub IsAwaited : Phase → RepublishResponse → Type 0
IsAwaited p r = (is_good r.response_header.service_result ≡ true) × ((wanted : List ℕ) × (p ≡ phase.Republishing wanted))

again_by : (wanted : List ℕ) (r : RepublishResponse) (l : LinkState) (b : Bool) → is_answer r.response_header l ≡ b
    → IsAwaited (phase.Republishing wanted) r
    ⊎ ((if b then sub_rules.message_again r.notification_message l.remembered l else broken l) ≡ broken l)
again_by wanted r l true test = inl (second_of_both _ _ test, (wanted, refl))
again_by wanted r l false test = inr refl

republished : (wanted : List ℕ) (r : RepublishResponse) (l : LinkState)
    → IsAwaited (phase.Republishing wanted) r ⊎ (sub_rules.in_republishing (reply.Subscription (sub_reply.Republish r)) l ≡ broken l)
unfolding sub_rules.in_republishing
republished wanted r l = again_by wanted r l (is_answer r.response_header l) refl

pub republish_in : (p : Phase) (r : RepublishResponse) (l : LinkState)
    → IsAwaited p r ⊎ (step_rules.replied_in p (reply.Subscription (sub_reply.Republish r)) l ≡ broken l)
unfolding start_rules.in_creating start_rules.in_activating start_rules.in_probing sub_rules.in_transferring sub_rules.in_subscribing sub_rules.in_adding ready_rules.in_ready
republish_in phase.Idle r l = inr refl
republish_in (phase.Dialing taken) r l = inr refl
republish_in phase.Hello r l = inr refl
republish_in phase.Opening r l = inr refl
republish_in phase.Creating r l = inr refl
republish_in phase.Activating r l = inr refl
republish_in phase.Probing r l = inr refl
republish_in phase.Transferring r l = inr refl
republish_in (phase.Republishing wanted) r l = republished wanted r l
republish_in phase.Subscribing r l = inr refl
republish_in phase.Adding r l = inr refl
republish_in (phase.Ready ready) r l = inr refl
