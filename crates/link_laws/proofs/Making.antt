-- Items are made once for each subscription.
use Rattle.std.proofs.Common.{◌≡◌, ◌≢◌, ℕ, List, [], ◌∷◌, ◌++◌, Some, None, Result, Ok, Err, refl, sym, ap, ◌∙◌, subst, append_assoc}
use Rattle.ua_structures.specs.declared.body.BodyFault.{BodyFault}
use Rattle.ua_structures.specs.Body.{body_at}
use Rattle.ua_channel.specs.declared.heard.Heard.{Heard}
use Rattle.ua_channel.specs.declared.heard.Heard.TheVariants as said_of
use Rattle.ua_session_msgs.specs.declared.reply.SessionReply.{SessionReply}
use Rattle.ua_session_msgs.specs.declared.reply.SessionReply.TheVariants as session_reply
use Rattle.ua_sub_msgs.specs.declared.item.CreateMonitoredItemsRequest.{CreateMonitoredItemsRequest}
use Rattle.ua_sub_msgs.specs.declared.reply.SubReply.{SubReply}
use Rattle.ua_sub_msgs.specs.declared.reply.SubReply.TheVariants as sub_reply
use Rattle.ua_services.specs.declared.reply.Reply.{Reply}
use Rattle.ua_services.specs.declared.reply.Reply.TheVariants as reply
use Rattle.ua_services.specs.Families.{replies}
use Rattle.link_rules.specs.declared.config.LinkConfig.{LinkConfig}
use Rattle.link_rules.specs.State.{LinkState}
use Rattle.link_rules.specs.Said.{LinkDid, Said, Told, Limited, Renewed, Greeted, Opens, Asks}
use Rattle.link_rules.specs.Requests.{activation_request, channel_request, items_request, level_request, mode_request, probe_request, publish_request, republish_request, session_request_of, subscription_request, transfer_request}
use Rattle.link_rules.specs.Step as step_rules
use Rattle.link_rules.specs.Step.{Happening, after}
use Rattle.link_laws.specs.Taken.{heard_reply, id_in, reply_by, reply_of}
use Rattle.link_laws.specs.Asked.{IsStandard, MakesItems, items_asked, items_put}
use Rattle.link_laws.proofs.Moves.{AreFair, AreSilent, Asking, Channel, Session, Activation, Probe, Transfer, Again, Subscription, Items, Publish, Modes, Level, Renewal, IsFair, IsSilent, Leave, MayAsk, Move, Turns, Greets, Puts, done, done_all, left, leave_heard, leave_in, leave_of, leave_read, told_of, Sets}
use Rattle.link_laws.proofs.Opening.{happens}
use Rattle.link_laws.proofs.Plain.{move_config, move_silent}

-- ---- what is asked

asks_none : (a : Asking) (l : LinkState) → ((id : ℕ) → a ≢ Items id) → items_asked (told_of a l) ≡ []
unfolding activation_request channel_request items_request level_request mode_request probe_request publish_request republish_request session_request_of subscription_request transfer_request
asks_none (Items id) l h = absurd (h id refl)
asks_none Channel l h = refl
asks_none Session l h = refl
asks_none Activation l h = refl
asks_none Probe l h = refl
asks_none (Transfer id) l h = refl
asks_none (Again id number wanted) l h = refl
asks_none Subscription l h = refl
asks_none (Publish ready remembered) l h = refl
asks_none (Modes mode ready id) l h = refl
asks_none Level l h = refl
asks_none Renewal l h = refl

asks_items : (id : ℕ) (l : LinkState) → (r : CreateMonitoredItemsRequest) × (items_asked (told_of (Items id) l) ≡ r ∷ []) × IsStandard id l.config r
unfolding items_request
asks_items id l = (_, refl, record { subscription = refl; items = refl; times = refl })

-- ---- lists

put_join : (one other : List Said) → items_put (one ++ other) ≡ items_put one ++ items_put other
put_join [] other = refl
put_join (said ∷ one) other =
    ap (λ (x : List CreateMonitoredItemsRequest). items_asked said.told ++ x) (put_join one other)
    ∙ sym (append_assoc (items_asked said.told) (items_put one) (items_put other))

no_items : (told : Told) → IsSilent told → items_asked told ≡ []
no_items (Greeted greeting url) h = absurd h
no_items (Opens number r) h = absurd h
no_items (Asks number r) h = absurd h
no_items (Limited limits) h = refl
no_items (Renewed channel token) h = refl

silent_none : (said : List Said) → AreSilent said → items_put said ≡ []
silent_none [] h = refl
silent_none (one ∷ more) h =
    ap (λ (x : List CreateMonitoredItemsRequest). x ++ items_put more) (no_items one.told h.0) ∙ silent_none more h.1

-- where no id was given nothing is made
unmade : (config : LinkConfig) (list : List CreateMonitoredItemsRequest) → MakesItems None config list → list ≡ []
unmade config [] h = refl
unmade config (r ∷ []) h = let bad : None ≡ Some h.0 = h.1 in absurd cc
unmade config (r ∷ another ∷ more) h = absurd h

-- ---- moves

-- what a move puts, and what may be made after it
record IsMade (leave : Leave) (l : LinkState) (move : Move) : Type 0 where
  pub put : (rest : List CreateMonitoredItemsRequest) → MakesItems (left move leave).made l.config rest
      → MakesItems leave.made l.config (items_put (done move l).said ++ rest)

none_more : (leave : Leave) (l : LinkState) (move : Move) → items_put (done move l).said ≡ [] → (left move leave).made ≡ leave.made → IsMade leave l move
none_more leave l move none_put same = record {
  put = λ rest h.
      subst (λ (x : List CreateMonitoredItemsRequest). MakesItems leave.made l.config (x ++ rest)) (sym none_put)
      (subst (λ o. MakesItems o l.config rest) same h);
}

silent_more : (leave : Leave) (move : Move) (l : LinkState) → AreSilent (done move l).said → (left move leave).made ≡ leave.made → IsMade leave l move
silent_more leave move l silent same = none_more leave l move (silent_none (done move l).said silent) same

put_none : (a : Asking) (l : LinkState) → items_asked (told_of a l) ≡ [] → items_put (done (Puts a) l).said ≡ []
put_none a l e = ap (λ (x : List CreateMonitoredItemsRequest). x ++ []) e

items_made : (leave : Leave) (id : ℕ) (l : LinkState) → leave.made ≡ Some id → IsMade leave l (Puts (Items id))
items_made leave id l made_is =
    let asks = asks_items id l in
    record {
      put = λ rest h.
          subst (λ (x : List CreateMonitoredItemsRequest). MakesItems leave.made l.config (x ++ [] ++ rest)) (sym asks.1)
          (subst (λ (x : List CreateMonitoredItemsRequest). MakesItems leave.made l.config (asks.0 ∷ x)) (sym (unmade l.config rest h))
          (id, made_is, asks.2));
    }

puts_made : (leave : Leave) (a : Asking) (l : LinkState) → MayAsk leave a l → IsMade leave l (Puts a)
puts_made leave (Items id) l h = items_made leave id l h.1
puts_made leave Channel l h = none_more leave l (Puts Channel) (put_none Channel l (asks_none Channel l (λ id e. absurd cc))) refl
puts_made leave other l h = none_more leave l (Puts other) (put_none other l (asks_none other l (λ id e. absurd cc))) refl

move_made : (leave : Leave) (move : Move) (l : LinkState) → IsFair leave move l → IsMade leave l move
move_made leave (Greets url) l h = none_more leave l (Greets url) refl refl
move_made leave (Puts a) l h = puts_made leave a l h.0
move_made leave (Sets mode ready id) l h =
    none_more leave l (Sets mode ready id) (put_none (Modes mode ready id) l (asks_none (Modes mode ready id) l (λ other e. absurd cc))) refl
move_made leave (Turns did) l h = silent_more leave (Turns did) l h.silent refl
move_made leave other l h = silent_more leave other l (move_silent leave other l h refl) refl

moves_made : (leave : Leave) (moves : List Move) (l : LinkState) → AreFair leave moves l
    → MakesItems leave.made l.config (items_put (done_all moves l).said)
moves_made leave [] l h = tt
moves_made leave (move ∷ moves) l h =
    let next : LinkDid = done move l in
    let rest : MakesItems (left move leave).made l.config (items_put (done_all moves next.link).said) =
    subst (λ config. MakesItems (left move leave).made config (items_put (done_all moves next.link).said))
    (move_config leave move l h.0) (moves_made (left move leave) moves next.link h.1) in
    subst (λ (x : List CreateMonitoredItemsRequest). MakesItems leave.made l.config x) (sym (put_join next.said (done_all moves next.link).said))
    ((move_made leave move l h.0).put (items_put (done_all moves next.link).said) rest)

-- ---- events

session_id : (r : SessionReply) → (leave_in (Some (reply.Session r))).made ≡ id_in (Some (reply.Session r))
session_id (session_reply.ServiceFault h) = refl
session_id (session_reply.Read r) = refl
session_id other = refl

sub_id : (r : SubReply) → (leave_in (Some (reply.Subscription r))).made ≡ id_in (Some (reply.Subscription r))
sub_id (sub_reply.CreateSubscription r) = refl
sub_id (sub_reply.Publish r) = refl
sub_id (sub_reply.Republish r) = refl
sub_id other = refl

read_id : (result : Result Reply BodyFault) → (leave_read result).made ≡ id_in (reply_by result)
read_id (Ok (reply.Session r)) = session_id r
read_id (Ok (reply.Subscription r)) = sub_id r
read_id (Err fault) = refl

heard_id : (h : Heard) → (leave_heard h).made ≡ id_in (heard_reply h)
heard_id (said_of.Message number body) = read_id (body_at replies body)
heard_id other = refl

event_id : (h : Happening) → (leave_of h).made ≡ id_in (reply_of h)
event_id (step_rules.Hears heard) = heard_id heard
event_id (step_rules.Ticks ms) = refl
event_id (step_rules.Wants mode) = refl
event_id step_rules.Dials = refl
event_id other = refl

pub items_are_made_once : (h : Happening) (l : LinkState) → MakesItems (id_in (reply_of h)) l.config (items_put (after h l).said)
items_are_made_once h l =
    let comes = happens h l in
    subst (λ o. MakesItems o l.config (items_put (after h l).said)) (event_id h)
    (subst (λ (d : LinkDid). MakesItems (leave_of h).made l.config (items_put d.said)) (sym comes.is)
    (moves_made (leave_of h) comes.moves l comes.fair))
