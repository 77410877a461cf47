-- What a reply makes of the count of messages put and taken.
use Rattle.std.proofs.Common.{◌≡◌, ℕ, ℤ, ◌+◌, ◌==◌, List, [], ◌∷◌, ◌++◌, length, Bool, true, false, nat_le, min, Option, Some, None, Result, Ok, Err, if◌then◌else◌, refl, sym, ◌∙◌, ap, subst, ◌⊎◌, inl, inr}
use Rattle.ua_base.specs.declared.modes.Mode.{Mode}
use Rattle.ua_base.specs.Status.{bad_message_not_available}
use Rattle.ua_variants.specs.declared.variant.Stamped.{Stamped}
use Rattle.ua_variants.specs.declared.variant.Variant.{Variant}
use Rattle.ua_structures.specs.declared.body.BodyFault.{BodyFault}
use Rattle.ua_structures.specs.declared.header.ResponseHeader.{ResponseHeader}
use Rattle.ua_session_msgs.specs.declared.reply.SessionReply.TheVariants as session_reply
use Rattle.ua_sub_msgs.specs.declared.notification.MonitoredItemNotification.{MonitoredItemNotification}
use Rattle.ua_sub_msgs.specs.declared.notification.NotificationMessage.{NotificationMessage}
use Rattle.ua_sub_msgs.specs.declared.reply.SubReply.TheVariants as sub_reply
use Rattle.ua_services.specs.declared.reply.Reply.{Reply}
use Rattle.ua_services.specs.declared.reply.Reply.TheVariants as reply
use Rattle.ua_services.specs.declared.request.Request.{Request}
use Rattle.ua_services.specs.Families.{replies, written_request}
use Rattle.link_rules.specs.declared.content.Content.{Content}
use Rattle.link_rules.specs.declared.content.Content.TheVariants as content
use Rattle.link_rules.specs.declared.conversation.Conversation.{Conversation}
use Rattle.link_rules.specs.declared.notice.Notice.TheVariants as notice
use Rattle.link_rules.specs.declared.phase.Phase.{Phase}
use Rattle.link_rules.specs.declared.phase.Phase.TheVariants as phase
use Rattle.link_rules.specs.declared.phase.ReadyState.{ReadyState}
use Rattle.link_rules.specs.declared.remembered.Monitored.{Monitored}
use Rattle.link_rules.specs.declared.remembered.Remembered.{Remembered}
use Rattle.link_rules.specs.State.{LinkState, is_ready, is_ready_phase, ready_in, with_phase}
use Rattle.link_rules.specs.Said.{LinkDid, Said, Told, Asks, and_then, nothing, tells}
use Rattle.link_rules.specs.Closing.{broken, dropped, left_in}
use Rattle.link_rules.specs.Asking.{asked, asked_opening, is_answer, is_fault, next_request, numbered}
use Rattle.link_rules.specs.Messages.{acknowledged, all_taken, awaits, content_of, data_taken, kept_alive, newest}
use Rattle.link_rules.specs.Numbers.{is_jump, is_next}
use Rattle.link_rules.specs.Publishing.{enters_ready, fills, new_ready, published, publishes, publishes_in, subscribes}
use Rattle.link_rules.specs.Ready as ready_rules
use Rattle.link_rules.specs.Subscribing as sub_rules
use Rattle.link_rules.specs.Starting as start_rules
use Rattle.link_rules.specs.Opening as open_rules
use Rattle.link_rules.specs.Step as step_rules
use Rattle.link_laws.specs.Lockstep.{has_publish, is_publish, is_put, puts}
use Rattle.link_laws.proofs.Moves.{Asking, Channel, Session, Activation, Probe, Transfer, Again, Subscription, Items, Publish, begun, request_of, told_by, told_of}
use Rattle.link_laws.proofs.Reading.{asks_publish, asks_put, is_publishing}

-- ---- a link that put no Publish on its connection

abbrev IsThere : Option Remembered → Type 0
IsThere (Some remembered) = Unit {0}
IsThere None = ⊥

-- a subscription is remembered, where the phase is one of it
abbrev pub Holds : Phase → Option Remembered → Type 0
Holds (phase.Republishing wanted) remembered = IsThere remembered
Holds phase.Adding remembered = IsThere remembered
Holds other remembered = Unit {0}

pub record IsEarly (l : LinkState) : Type 0 where
  pub unready : is_ready l ≡ false
  pub renews : l.conversation.renewal ≡ None
  pub holds : Holds l.phase l.remembered

-- ---- what is done with a message

pub record HasFallen (did : LinkDid) : Type 0 where
  pub phase : did.link.phase ≡ phase.Idle
  pub said : puts did.said ≡ []
  pub unpublished : has_publish did.said ≡ false
  pub renews : did.link.conversation.renewal ≡ None

pub record HasAsked (did : LinkDid) : Type 0 where
  pub one : Said
  pub said : puts did.said ≡ one ∷ []
  pub unpublished : has_publish did.said ≡ false
  pub early : IsEarly did.link

abbrev pub IsPast : LinkDid → Type 0
IsPast did = HasFallen did ⊎ (HasAsked did ⊎ (has_publish did.said ≡ true))

pub past_if : (b : Bool) (one other : LinkDid) → IsPast one → IsPast other → IsPast (if b then one else other)
past_if true one other h rest = h
past_if false one other h rest = rest

left_talk : (p : Phase) (l : LinkState) → (left_in p l).conversation ≡ l.conversation
left_talk phase.Adding l = refl
left_talk phase.Idle l = refl
left_talk other l = refl

pub broken_fell : (l : LinkState) → l.conversation.renewal ≡ None → HasFallen (broken l)
unfolding broken
broken_fell l e = record {
  phase = refl;
  said = refl;
  unpublished = refl;
  renews = ap (λ (c : Conversation). c.renewal) (left_talk l.phase l) ∙ e;
}

pub dropped_fell : (l : LinkState) → l.conversation.renewal ≡ None → HasFallen (dropped l)
unfolding dropped
dropped_fell l e = record {
  phase = refl;
  said = refl;
  unpublished = refl;
  renews = ap (λ (c : Conversation). c.renewal) (left_talk l.phase l) ∙ e;
}

pub falls : (l : LinkState) → IsEarly l → IsPast (broken l)
falls l early = inl (broken_fell l early.renews)

-- what is put is one message
put_one : (one : Said) → is_put one.told ≡ true → puts (one ∷ []) ≡ one ∷ []
put_one one e = ap (λ b. if b then one ∷ [] else []) e

publish_none : (one : Said) → is_publish one.told ≡ false → has_publish (one ∷ []) ≡ false
publish_none one e = ap (λ b. if b then true else false) e

put_past : (a : Asking) (l : LinkState) → is_publishing a ≡ false → IsEarly (begun a l) → IsPast (numbered (told_of a l) (begun a l))
put_past a l other early =
    let did : LinkDid = numbered (told_of a l) (begun a l) in
    let one : Said = record { channel = (begun a l).conversation.channel; token = (begun a l).conversation.token; told = told_of a l } in
    inr (inl (record {
      one = one;
      said = put_one one (asks_put a (next_request (begun a l)) (request_of a l));
      unpublished = publish_none one (asks_publish a l ∙ other);
      early = record { unready = early.unready; renews = early.renews; holds = early.holds };
    }))

asked_if : (a : Asking) (l : LinkState) (b : Bool) → is_publishing a ≡ false → IsEarly (begun a l)
    → IsPast (if b then numbered (told_of a l) (begun a l) else broken (begun a l))
asked_if a l true other early = put_past a l other early
asked_if a l false other early = falls (begun a l) early

pub asks_past : (a : Asking) (l : LinkState) → ((n : ℕ) (r : Request) → told_by a n r ≡ Asks n r) → is_publishing a ≡ false → IsEarly (begun a l)
    → IsPast (asked (request_of a l) (begun a l))
unfolding asked
asks_past a l is other early =
    subst (λ (told : Told). IsPast (if nat_le (length (written_request (request_of a l))) (begun a l).conversation.limit
    then numbered told (begun a l) else broken (begun a l)))
    (is (next_request (begun a l)) (request_of a l))
    (asked_if a l (nat_le (length (written_request (request_of a l))) (begun a l).conversation.limit) other early)

pub opens_past : (l : LinkState) → IsEarly l → IsPast (open_rules.opens_channel l)
unfolding open_rules.opens_channel asked_opening
opens_past l early =
    asked_if Channel l (nat_le (length (written_request (request_of Channel l))) (min (begun Channel l).conversation.limit 4096)) refl
    (record { unready = refl; renews = early.renews; holds = tt })

-- ---- the link becomes ready

quiet_then : (did next : LinkDid) → did.said ≡ [] → IsPast next
    → IsPast (record { link = next.link; said = did.said ++ next.said; notices = did.notices ++ next.notices })
quiet_then did next none h =
    subst (λ (x : List Said). IsPast (record { link = next.link; said = x ++ next.said; notices = did.notices ++ next.notices })) (sym none)
    (by_past h)
  where
    by_past : IsPast next → IsPast (record { link = next.link; said = next.said; notices = did.notices ++ next.notices })
    by_past (inl f) = inl (record { phase = f.phase; said = f.said; unpublished = f.unpublished; renews = f.renews })
    by_past (inr (inl a)) = inr (inl (record { one = a.one; said = a.said; unpublished = a.unpublished; early = a.early }))
    by_past (inr (inr p)) = inr (inr p)

none_published : (r : Option Remembered) (l : LinkState) → l.phase ≡ phase.Idle → publishes_in (ready_in l.phase) r l ≡ nothing l
none_published r l e = ap (λ p. publishes_in (ready_in p) r l) e

idle_publishes : (l : LinkState) → l.phase ≡ phase.Idle → publishes l ≡ nothing l
unfolding publishes
idle_publishes l e = none_published l.remembered l e

fallen_then : (did : LinkDid) → HasFallen did → did.said ≡ [] → IsPast (and_then publishes did)
fallen_then did h none =
    quiet_then did (publishes did.link) none
    (inl (subst HasFallen (sym (idle_publishes did.link h.phase)) (record { phase = h.phase; said = refl; unpublished = refl; renews = h.renews })))

broken_none : (l : LinkState) → (broken l).said ≡ []
unfolding broken
broken_none l = refl

first_publish : (one : Said) (more : List Said) → is_publish one.told ≡ true → has_publish (one ∷ more) ≡ true
first_publish one more e = ap (λ b. if b then true else has_publish more) e

publish_if : (ready : ReadyState) (remembered : Remembered) (l : LinkState) (b : Bool) → l.conversation.renewal ≡ None
    → IsPast (and_then publishes (if b then numbered (told_of (Publish ready remembered) l) (begun (Publish ready remembered) l)
    else broken (begun (Publish ready remembered) l)))
publish_if ready remembered l true e =
    let next : LinkState = begun (Publish ready remembered) l in
    let one : Said = record { channel = next.conversation.channel; token = next.conversation.token; told = told_of (Publish ready remembered) l } in
    inr (inr (first_publish one (publishes (numbered (told_of (Publish ready remembered) l) next).link).said (asks_publish (Publish ready remembered) l)))
publish_if ready remembered l false e =
    let next : LinkState = begun (Publish ready remembered) l in
    fallen_then (broken next) (broken_fell next e) (broken_none next)

fills_by : (confirmed : Option Mode) (r : Option Remembered) (l : LinkState) → IsThere r → l.conversation.renewal ≡ None
    → IsPast (and_then publishes (publishes_in (Some (new_ready confirmed)) r l))
unfolding published asked
fills_by confirmed None l h e = absurd h
fills_by confirmed (Some remembered) l h e =
    publish_if (new_ready confirmed) remembered l
    (nat_le (length (written_request (request_of (Publish (new_ready confirmed) remembered) l))) (begun (Publish (new_ready confirmed) remembered) l).conversation.limit) e

fills_past : (confirmed : Option Mode) (l : LinkState) → l.phase ≡ phase.Ready (new_ready confirmed) → IsThere l.remembered → l.conversation.renewal ≡ None
    → IsPast (fills l)
unfolding fills publishes
fills_past confirmed l is h e =
    subst (λ p. IsPast (and_then publishes (publishes_in (ready_in p) l.remembered l))) (sym is) (fills_by confirmed l.remembered l h e)

enters_past : (confirmed : Option Mode) (l : LinkState) → IsThere l.remembered → l.conversation.renewal ≡ None → IsPast (enters_ready confirmed l)
unfolding enters_ready
enters_past confirmed l h e =
    let next : LinkState = with_phase (phase.Ready (new_ready confirmed)) l in
    quiet_then (tells (notice.Ready ∷ []) next) (fills next) refl (fills_past confirmed next refl h e)

-- ---- replies

subscribes_past : (l : LinkState) → IsEarly l → IsPast (subscribes l)
unfolding subscribes
subscribes_past l early = asks_past Subscription l (λ n r. refl) refl (record { unready = refl; renews = early.renews; holds = tt })

again_past : (numbers : List ℕ) (remembered : Remembered) (l : LinkState) → IsEarly l → IsThere l.remembered → IsPast (sub_rules.asks_again numbers remembered l)
unfolding sub_rules.asks_again
again_past [] remembered l early h = enters_past None l h early.renews
again_past (number ∷ wanted) remembered l early h =
    asks_past (Again remembered.id number wanted) l (λ n r. refl) refl (record { unready = refl; renews = early.renews; holds = h })

begins_by : (r : Option Remembered) (l : LinkState) → IsEarly l → IsPast (sub_rules.begins_by r l)
begins_by None l early = subscribes_past l early
begins_by (Some remembered) l early =
    asks_past (Transfer remembered.id) l (λ n r. refl) refl (record { unready = refl; renews = early.renews; holds = tt })

begins_past : (l : LinkState) → IsEarly l → IsPast (sub_rules.begins l)
unfolding sub_rules.begins
begins_past l early = begins_by l.remembered l early

there_by : (r : Option Remembered) (remembered : Remembered) → r ≡ Some remembered → IsThere r
there_by r remembered e = subst IsThere (sym e) tt

transfers_by : (a : Option (List ℕ)) (r : Option Remembered) (l : LinkState) → l.remembered ≡ r → IsEarly l → IsPast (sub_rules.transfers_by a r l)
transfers_by None r l e early = subscribes_past l early
transfers_by (Some available) None l e early = subscribes_past l early
transfers_by (Some available) (Some remembered) l e early = again_past _ remembered l early (there_by l.remembered remembered e)

transferred_past : (a : Option (List ℕ)) (h : ResponseHeader) (l : LinkState) → IsEarly l → IsPast (sub_rules.transferred a h l)
unfolding sub_rules.transferred
transferred_past a h l early =
    past_if (h.request_handle == l.conversation.last) (sub_rules.transfers_by a l.remembered l) (broken l)
    (transfers_by a l.remembered l refl early) (falls l early)

transferring_past : (r : Reply) (l : LinkState) → IsEarly l → IsPast (sub_rules.in_transferring r l)
unfolding sub_rules.in_transferring
transferring_past (reply.Session (session_reply.ServiceFault h)) l early = transferred_past None h l early
transferring_past (reply.Subscription (sub_reply.TransferSubscriptions r)) l early = transferred_past _ r.response_header l early
transferring_past other l early = falls l early

-- a message that is said again leaves the phase and the subscription
record IsOnly (wanted : List ℕ) (did : LinkDid) : Type 0 where
  pub said : did.said ≡ []
  pub phase : did.link.phase ≡ phase.Republishing wanted
  pub there : IsThere did.link.remembered
  pub renews : did.link.conversation.renewal ≡ None

goes_by : (wanted : List ℕ) (r : Option Remembered) (l : LinkState) → l.remembered ≡ r → IsThere r → IsEarly l
    → IsPast (sub_rules.goes_on_by (Some wanted) r l)
goes_by wanted None l e h early = absurd h
goes_by wanted (Some remembered) l e h early = again_past wanted remembered l early (there_by l.remembered remembered e)

goes_past : (wanted : List ℕ) (l : LinkState) → l.phase ≡ phase.Republishing wanted → IsThere l.remembered → l.conversation.renewal ≡ None
    → IsPast (sub_rules.goes_on l)
unfolding sub_rules.goes_on
goes_past wanted l is h e =
    subst (λ p. IsPast (sub_rules.goes_on_by (sub_rules.wanted_in p) l.remembered l)) (sym is)
    (goes_by wanted l.remembered l refl h
    (record { unready = ap is_ready_phase is; renews = e; holds = subst (λ p. Holds p l.remembered) (sym is) h }))

idle_goes : (l : LinkState) → l.phase ≡ phase.Idle → sub_rules.goes_on l ≡ nothing l
unfolding sub_rules.goes_on
idle_goes l is = ap (λ p. sub_rules.goes_on_by (sub_rules.wanted_in p) l.remembered l) is

only_then : (wanted : List ℕ) (did : LinkDid) → IsOnly wanted did → IsPast (and_then sub_rules.goes_on did)
only_then wanted did h =
    quiet_then did (sub_rules.goes_on did.link) h.said (goes_past wanted did.link h.phase h.there h.renews)

broken_then : (l : LinkState) → l.conversation.renewal ≡ None → IsPast (and_then sub_rules.goes_on (broken l))
broken_then l e =
    let fell : HasFallen (broken l) = broken_fell l e in
    quiet_then (broken l) (sub_rules.goes_on (broken l).link) (broken_none l)
    (inl (subst HasFallen (sym (idle_goes (broken l).link fell.phase)) (record { phase = fell.phase; said = refl; unpublished = refl; renews = fell.renews })))

alive_only : (wanted : List ℕ) (number : ℕ) (remembered : Remembered) (l : LinkState) → l.phase ≡ phase.Republishing wanted → IsThere l.remembered
    → l.conversation.renewal ≡ None → IsOnly wanted (kept_alive number remembered l)
unfolding kept_alive
alive_only wanted number remembered l is h e = by_test (is_jump remembered.next number)
  where
    by_test : (b : Bool) → IsOnly wanted (if b then tells (notice.Jump ∷ []) (awaits number remembered l) else nothing l)
    by_test true = record { said = refl; phase = is; there = tt; renews = e }
    by_test false = record { said = refl; phase = is; there = h; renews = e }

data_only : (wanted : List ℕ) (number : ℕ) (values : List MonitoredItemNotification) (remembered : Remembered) (l : LinkState)
    → l.phase ≡ phase.Republishing wanted → IsThere l.remembered → l.conversation.renewal ≡ None
    → IsOnly wanted (data_taken number values remembered l)
unfolding data_taken
data_only wanted number values remembered l is h e = by_tests (is_next remembered.next number) (is_jump remembered.next number)
  where
    by_tests : (a b : Bool) → IsOnly wanted (if a then tells (all_taken l.monitored values) (newest number remembered l)
        else if b then tells (notice.Jump ∷ all_taken l.monitored values) (newest number remembered l)
        else nothing (acknowledged number l))
    by_tests true b = record { said = refl; phase = is; there = tt; renews = e }
    by_tests false true = record { said = refl; phase = is; there = tt; renews = e }
    by_tests false false = record { said = refl; phase = is; there = h; renews = e }

brings_again : (wanted : List ℕ) (c : Content) (number : ℕ) (remembered : Remembered) (l : LinkState) → l.phase ≡ phase.Republishing wanted
    → IsThere l.remembered → l.conversation.renewal ≡ None → IsPast (and_then sub_rules.goes_on (sub_rules.brings_again c number remembered l))
unfolding sub_rules.brings_again
brings_again wanted content.Alive number remembered l is h e = only_then wanted _ (alive_only wanted number remembered l is h e)
brings_again wanted content.Ended number remembered l is h e =
    only_then wanted (nothing l) (record { said = refl; phase = is; there = h; renews = e })
brings_again wanted (content.Values values) number remembered l is h e = only_then wanted _ (data_only wanted number values remembered l is h e)
brings_again wanted content.Unread number remembered l is h e = broken_then l e

message_again : (wanted : List ℕ) (m : NotificationMessage) (r : Option Remembered) (l : LinkState) → l.phase ≡ phase.Republishing wanted
    → IsThere l.remembered → IsEarly l → IsPast (sub_rules.message_again m r l)
unfolding sub_rules.message_again
message_again wanted m None l is h early = falls l early
message_again wanted m (Some remembered) l is h early =
    brings_again wanted (content_of m.notification_data) m.sequence_number remembered l is h early.renews

republishing_past : (wanted : List ℕ) (r : Reply) (l : LinkState) → l.phase ≡ phase.Republishing wanted → IsThere l.remembered → IsEarly l
    → IsPast (sub_rules.in_republishing r l)
unfolding sub_rules.in_republishing
republishing_past wanted (reply.Session (session_reply.ServiceFault h)) l is there early =
    past_if (is_fault l.conversation.last bad_message_not_available h) (sub_rules.goes_on l) (broken l) (goes_past wanted l is there early.renews) (falls l early)
republishing_past wanted (reply.Subscription (sub_reply.Republish r)) l is there early =
    past_if (is_answer r.response_header l) (sub_rules.message_again r.notification_message l.remembered l) (broken l)
    (message_again wanted r.notification_message l.remembered l is there early) (falls l early)
republishing_past wanted other l is there early = falls l early

subscribed_past : (id : ℕ) (l : LinkState) → IsEarly l → IsPast (sub_rules.subscribed id l)
unfolding sub_rules.subscribed sub_rules.adds_items
subscribed_past id l early =
    let next : LinkState = sub_rules.made id l in
    quiet_then (tells (sub_rules.streams l.config.items) next) _ refl
    (asks_past (Items id) next (λ n r. refl) refl (record { unready = refl; renews = early.renews; holds = tt }))

subscribing_past : (r : Reply) (l : LinkState) → IsEarly l → IsPast (sub_rules.in_subscribing r l)
unfolding sub_rules.in_subscribing
subscribing_past (reply.Subscription (sub_reply.CreateSubscription r)) l early =
    past_if (is_answer r.response_header l) (sub_rules.subscribed r.subscription_id l) (broken l) (subscribed_past r.subscription_id l early) (falls l early)
subscribing_past other l early = falls l early

added_past : (monitored : List Monitored) (l : LinkState) → IsEarly l → IsThere l.remembered → IsPast (sub_rules.added monitored l)
unfolding sub_rules.added
added_past [] l early h = falls l early
added_past (first ∷ more) l early h = enters_past (Some l.config.rest) (record l { monitored = first ∷ more }) h early.renews

adding_past : (r : Reply) (l : LinkState) → IsEarly l → IsThere l.remembered → IsPast (sub_rules.in_adding r l)
unfolding sub_rules.in_adding
adding_past (reply.Subscription (sub_reply.CreateMonitoredItems r)) l early h =
    past_if (is_answer r.response_header l) (sub_rules.added (sub_rules.monitored_of l.config.items r.results) l) (broken l)
    (added_past (sub_rules.monitored_of l.config.items r.results) l early h) (falls l early)
adding_past other l early h = falls l early

activates_past : (l : LinkState) → IsEarly l → IsPast (start_rules.activates l)
unfolding start_rules.activates
activates_past l early = asks_past Activation l (λ n r. refl) refl (record { unready = refl; renews = early.renews; holds = tt })

creating_past : (r : Reply) (l : LinkState) → IsEarly l → IsPast (start_rules.in_creating r l)
unfolding start_rules.in_creating
creating_past (reply.Session (session_reply.CreateSession r)) l early =
    let next : LinkState = record l { session = r.authentication_token } in
    past_if (is_answer r.response_header l) (start_rules.activates next) (broken l)
    (activates_past next (record { unready = early.unready; renews = early.renews; holds = early.holds })) (falls l early)
creating_past other l early = falls l early

probes_past : (l : LinkState) → IsEarly l → IsPast (start_rules.probes l)
unfolding start_rules.probes
probes_past l early = asks_past Probe l (λ n r. refl) refl (record { unready = refl; renews = early.renews; holds = tt })

activating_past : (r : Reply) (l : LinkState) → IsEarly l → IsPast (start_rules.in_activating r l)
unfolding start_rules.in_activating
activating_past (reply.Session (session_reply.ActivateSession r)) l early =
    past_if (is_answer r.response_header l) (start_rules.probes l) (broken l) (probes_past l early) (falls l early)
activating_past other l early = falls l early

unsupported_past : (l : LinkState) → IsEarly l → IsPast (start_rules.unsupported l)
unfolding start_rules.unsupported
unsupported_past l early =
    let next : LinkState = record l { unsupported = true } in
    quiet_then (tells (notice.Unsupported ∷ []) next) (broken next) refl
    (falls next (record { unready = early.unready; renews = early.renews; holds = early.holds }))

judges_past : (level : ℕ) (support : ℤ) (l : LinkState) → IsEarly l → IsPast (start_rules.judges level support l)
unfolding start_rules.judges
judges_past level support l early =
    past_if (start_rules.is_unused support) (start_rules.unsupported l) (if ready_rules.is_left level l then broken l else sub_rules.begins l)
    (unsupported_past l early) (past_if (ready_rules.is_left level l) (broken l) (sub_rules.begins l) (falls l early) (begins_past l early))

probed_by : (level : Option ℕ) (support : Option ℤ) (l : LinkState) → IsEarly l → IsPast (start_rules.probed_by level support l)
unfolding start_rules.probed_by
probed_by None support l early = falls l early
probed_by (Some level) None l early = falls l early
probed_by (Some level) (Some support) l early =
    quiet_then (tells (notice.Level level ∷ []) l) (start_rules.judges level support l) refl (judges_past level support l early)

probed_past : (values : List (Stamped Variant)) (l : LinkState) → IsEarly l → IsPast (start_rules.probed values l)
unfolding start_rules.probed
probed_past [] l early = falls l early
probed_past (level ∷ []) l early = falls l early
probed_past (level ∷ support ∷ []) l early = probed_by _ _ l early
probed_past (level ∷ support ∷ another ∷ more) l early = falls l early

probing_past : (r : Reply) (l : LinkState) → IsEarly l → IsPast (start_rules.in_probing r l)
unfolding start_rules.in_probing
probing_past (reply.Session (session_reply.Read r)) l early =
    past_if (is_answer r.response_header l) (start_rules.probed r.results l) (broken l) (probed_past r.results l early) (falls l early)
probing_past other l early = falls l early

replied_by : (p : Phase) (r : Reply) (l : LinkState) → l.phase ≡ p → IsEarly l → IsPast (step_rules.replied_in p r l)
replied_by phase.Idle r l e early = falls l early
replied_by (phase.Dialing taken) r l e early = falls l early
replied_by phase.Hello r l e early = falls l early
replied_by phase.Opening r l e early = falls l early
replied_by phase.Creating r l e early = creating_past r l early
replied_by phase.Activating r l e early = activating_past r l early
replied_by phase.Probing r l e early = probing_past r l early
replied_by phase.Transferring r l e early = transferring_past r l early
replied_by (phase.Republishing wanted) r l e early =
    republishing_past wanted r l e (subst (λ p. Holds p l.remembered) e early.holds) early
replied_by phase.Subscribing r l e early = subscribing_past r l early
replied_by phase.Adding r l e early = adding_past r l early (subst (λ p. Holds p l.remembered) e early.holds)
replied_by (phase.Ready ready) r l e early =
    let bad : true ≡ false = sym (ap is_ready_phase e) ∙ early.unready in absurd cc

pub read_reply : (result : Result Reply BodyFault) (l : LinkState) → IsEarly l → IsPast (step_rules.replied_by result l)
read_reply (Ok r) l early = replied_by l.phase r l refl early
read_reply (Err fault) l early = falls l early
