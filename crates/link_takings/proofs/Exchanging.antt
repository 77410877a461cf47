-- What was put on a connection and taken of it, while the link is still beginning.
use Rattle.std.proofs.Common.{◌≡◌, ℕ, ◌+◌, List, [], ◌∷◌, ◌++◌, length, Bool, true, false, Option, Some, None, if◌then◌else◌, refl, sym, ap, ◌∙◌, subst, arith, ◌⊎◌, inl, inr}
use Rattle.std.proofs.lemmas.List.{append-nil, length-append}
use Rattle.ua_base.specs.declared.modes.Mode.{Mode}
use Rattle.ua_channel.specs.declared.heard.Heard.{Heard}
use Rattle.ua_channel.specs.State.{is_deaf}
use Rattle.ua_sub_msgs.specs.declared.publish.RepublishRequest.{RepublishRequest}
use Rattle.ua_sub_msgs.specs.declared.request.SubRequest.TheVariants as sub_request
use Rattle.ua_services.specs.declared.request.Request.TheVariants as request
use Rattle.link_rules.specs.declared.config.LinkConfig.{LinkConfig}
use Rattle.link_rules.specs.declared.phase.Phase.{Phase}
use Rattle.link_rules.specs.declared.phase.Phase.TheVariants as phase
use Rattle.link_rules.specs.declared.remembered.Remembered.{Remembered}
use Rattle.link_rules.specs.State.{LinkState, is_ready, new_link, ready_in, with_phase}
use Rattle.link_rules.specs.Said.{LinkDid, Told, Asks, Greeted, and_then, nothing, says}
use Rattle.link_rules.specs.Closing.{broken}
use Rattle.link_rules.specs.Requests.{hello}
use Rattle.link_rules.specs.Opening as open_rules
use Rattle.link_rules.specs.Time as time_rules
use Rattle.link_rules.specs.Step as step_rules
use Rattle.link_rules.specs.Step.{Happening, after, after_all}
use Rattle.link_takings.specs.Exchange.{AsksAgain, Exchange, NoPublish, anew_in, exchange_after, exchange_all, exchange_put, messages_of, no_exchange}
use Rattle.link_takings.proofs.Answering.{Holds, IsAgainIn, IsAnswered, hears_one}
use Rattle.link_takings.proofs.Late.{IsLate, broken_late, dropped_late, hears_late, is_late, ticked_late, wants_late}

-- ---- what is known of a connection

-- the last message that was put is a Republish request of the subscription that is remembered
record EndsAgain (o : Option Remembered) (put : List Told) : Type 0 where
  pub r : Remembered
  pub remembers : o ≡ Some r
  pub before : List Told
  pub number : ℕ
  pub body : RepublishRequest
  pub is : put ≡ before ++ Asks number (request.Subscription (sub_request.Republish body)) ∷ []
  pub subscription : body.subscription_id ≡ r.id

abbrev EndsIn : Phase → Option Remembered → List Told → Type 0
EndsIn (phase.Republishing wanted) o put = EndsAgain o put
EndsIn other o put = Unit {0}

record IsEarly (l : LinkState) (e : Exchange) : Type 0 where
  pub early : is_late l.phase ≡ false
  pub renews : l.conversation.renewal ≡ None
  pub step : length e.put ≡ length e.taken + 1
  pub unpublished : NoPublish e.put
  pub ends : EndsIn l.phase l.remembered e.put

abbrev IsOn : LinkState → Exchange → Type 0
IsOn l e = IsLate l ⊎ IsEarly l e

holds_by : (p : Phase) (o : Option Remembered) (put : List Told) → EndsIn p o put → Holds p o
holds_by (phase.Republishing wanted) o put ends = (ends.r, ends.remembers)
holds_by phase.Idle o put ends = tt
holds_by other o put ends = tt

no_publish_join : (one other : List Told) → NoPublish one → NoPublish other → NoPublish (one ++ other)
no_publish_join [] other h rest = rest
no_publish_join (told ∷ one) other h rest = (h.0, no_publish_join one other h.1 rest)

one_more : (put more : List Told) (taken : List Heard) (one : Told) (h : Heard) → more ≡ one ∷ [] → length put ≡ length taken + 1
    → length (put ++ more) ≡ length (taken ++ h ∷ []) + 1
one_more put more taken one h is step =
    let long : length more ≡ 1 = ap length is in
    let all : length (put ++ more) ≡ length put + length more = length-append put more in
    let heard : length (taken ++ h ∷ []) ≡ length taken + 1 = length-append taken (h ∷ []) in
    omega (arith, long, all, heard, step)

ends_by : (p : Phase) (o : Option Remembered) (put more : List Told) (one : Told) → more ≡ one ∷ [] → IsAgainIn p o one → EndsIn p o (put ++ more)
ends_by (phase.Republishing wanted) o put more one is again = record {
  r = again.r;
  remembers = again.remembers;
  before = put;
  number = again.number;
  body = again.body;
  is = ap (λ (x : List Told). put ++ x) (is ∙ ap (λ (x : Told). x ∷ []) again.asks);
  subscription = again.subscription;
}
ends_by phase.Idle o put more one is again = tt
ends_by other o put more one is again = tt

-- a message was taken, and one was put, or the link doesn't begin any more
answered_on : (did : LinkDid) (l : LinkState) (e : Exchange) (h : Heard) → IsAnswered did → IsEarly l e
    → IsOn did.link (exchange_put did.said (record e { taken = e.taken ++ h ∷ [] }))
answered_on did l e h (inl late) inside = inl late
answered_on did l e h (inr a) inside = inr (record {
  early = a.early;
  renews = a.renews;
  step = one_more e.put (messages_of did.said) e.taken a.one h a.said inside.step;
  unpublished = no_publish_join e.put (messages_of did.said) inside.unpublished
      (subst NoPublish (sym a.said) (a.unpublished, tt));
  ends = ends_by did.link.phase did.link.remembered e.put (messages_of did.said) a.one a.said a.again;
})

-- nothing is taken or put
quiet_on : (l next : LinkState) (e : Exchange) → next.phase ≡ l.phase → next.remembered ≡ l.remembered
    → next.conversation.renewal ≡ l.conversation.renewal → IsOn l e → IsOn next (exchange_put [] e)
quiet_on l next e p r c (inl late) = inl (ap is_late p ∙ late)
quiet_on l next e p r c (inr inside) = inr (record {
  early = ap is_late p ∙ inside.early;
  renews = c ∙ inside.renews;
  step = ap (λ (x : List Told). length x) (append-nil e.put) ∙ inside.step;
  unpublished = subst NoPublish (sym (append-nil e.put)) inside.unpublished;
  ends = subst (EndsIn next.phase next.remembered) (sym (append-nil e.put))
      (subst (λ x. EndsIn x next.remembered e.put) (sym p) (subst (λ x. EndsIn l.phase x e.put) (sym r) inside.ends));
})

same_on : (l : LinkState) (e : Exchange) → IsOn l e → IsOn l (exchange_put [] e)
same_on l e h = quiet_on l l e refl refl refl h

-- ---- a connection begins and ends

greets_on : (url : Option (List ℕ)) (l : LinkState)
    → IsOn (open_rules.greets url (open_rules.connected url l)).link
    (exchange_put (open_rules.greets url (open_rules.connected url l)).said no_exchange)
unfolding open_rules.greets
greets_on url l = by_test (open_rules.is_short url)
  where
    by_test : (b : Bool) → IsOn (if b then says (Greeted hello url) (open_rules.connected url l) else broken (open_rules.connected url l)).link
        (exchange_put (if b then says (Greeted hello url) (open_rules.connected url l) else broken (open_rules.connected url l)).said no_exchange)
    by_test true = inr (record { early = refl; renews = refl; step = refl; unpublished = (refl, tt); ends = tt })
    by_test false = inl (broken_late (open_rules.connected url l))

opened_by : (p : Phase) (url : Option (List ℕ)) (l : LinkState) (e : Exchange) → IsOn l e
    → IsOn (open_rules.opened_in p url l).link (exchange_put (open_rules.opened_in p url l).said (anew_in p e))
opened_by phase.Idle url l e h = quiet_on l (record l { closes = true }) e refl refl refl h
opened_by (phase.Dialing taken) url l e h = greets_on url l
opened_by other url l e h = inl (broken_late l)

opened_on : (url : Option (List ℕ)) (l : LinkState) (e : Exchange) → IsOn l e
    → IsOn (open_rules.opened url l).link (exchange_put (open_rules.opened url l).said (anew_in l.phase e))
unfolding open_rules.opened
opened_on url l e h = opened_by l.phase url l e h

refused_by : (p : Phase) (l : LinkState) (e : Exchange) → IsOn l e
    → IsOn (open_rules.refused_in p l).link (exchange_put (open_rules.refused_in p l).said e)
refused_by (phase.Dialing taken) l e h = inl (dropped_late l)
refused_by phase.Idle l e h = same_on l e h
refused_by other l e h = same_on l e h

refused_on : (l : LinkState) (e : Exchange) → IsOn l e → IsOn (open_rules.refused l).link (exchange_put (open_rules.refused l).said e)
unfolding open_rules.refused
refused_on l e h = refused_by l.phase l e h

closed_by : (p : Phase) (l : LinkState) (e : Exchange) → IsOn l e
    → IsOn (open_rules.closed_in p l).link (exchange_put (open_rules.closed_in p l).said e)
closed_by phase.Idle l e h = same_on l e h
closed_by (phase.Dialing taken) l e h = same_on l e h
closed_by other l e h = inl (dropped_late l)

closed_on : (l : LinkState) (e : Exchange) → IsOn l e → IsOn (open_rules.closed l).link (exchange_put (open_rules.closed l).said e)
unfolding open_rules.closed
closed_on l e h = by_test l.closes
  where
    by_test : (b : Bool) → IsOn (if b then nothing (record l { closes = false }) else open_rules.closed_in l.phase l).link
        (exchange_put (if b then nothing (record l { closes = false }) else open_rules.closed_in l.phase l).said e)
    by_test true = quiet_on l (record l { closes = false }) e refl refl refl h
    by_test false = closed_by l.phase l e h

-- ---- what is heard

hears_on : (h : Heard) (l : LinkState) (e : Exchange) → IsOn l e
    → IsOn (step_rules.hears h l).link (exchange_put (step_rules.hears h l).said (record e { taken = e.taken ++ h ∷ [] }))
hears_on h l e (inl late) = inl (hears_late h l late)
hears_on h l e (inr inside) =
    answered_on (step_rules.hears h l) l e h
    (hears_one h l inside.early inside.renews (holds_by l.phase l.remembered e.put inside.ends)) inside

heard_on : (h : Heard) (l : LinkState) (e : Exchange) → IsOn l e
    → IsOn (step_rules.heard h l).link
    (exchange_put (step_rules.heard h l).said (if is_deaf (step_rules.ear_of l) then e else record e { taken = e.taken ++ h ∷ [] }))
unfolding step_rules.heard
heard_on h l e on = by_ear (is_deaf (step_rules.ear_of l))
  where
    by_ear : (b : Bool) → IsOn (if b then nothing l else step_rules.hears h l).link
        (exchange_put (if b then nothing l else step_rules.hears h l).said (if b then e else record e { taken = e.taken ++ h ∷ [] }))
    by_ear true = same_on l e on
    by_ear false = hears_on h l e on

-- ---- other events

unready : (p : Phase) → is_late p ≡ false → ready_in p ≡ None
unready (phase.Ready ready) e = absurd cc
unready phase.Idle e = refl
unready other e = refl

unready_is : (l : LinkState) → is_late l.phase ≡ false → is_ready l ≡ false
unready_is l e = by_phase l.phase e
  where
    by_phase : (p : Phase) → is_late p ≡ false → is_ready (record l { phase = p }) ≡ false
    by_phase (phase.Ready ready) e = absurd cc
    by_phase phase.Idle e = refl
    by_phase other e = refl

keeps_on : (l : LinkState) (e : Exchange) → is_late l.phase ≡ false → IsOn l e
    → IsOn (time_rules.keeps_up l).link (exchange_put (time_rules.keeps_up l).said e)
unfolding time_rules.keeps_up
keeps_on l e early h =
    subst (λ b. IsOn (if b then and_then time_rules.renews_token (time_rules.reads_level l) else nothing l).link
    (exchange_put (if b then and_then time_rules.renews_token (time_rules.reads_level l) else nothing l).said e))
    (sym (unready_is l early)) (same_on l e h)

aged_on : (ms : ℕ) (l : LinkState) (e : Exchange) → IsEarly l e → IsEarly (time_rules.aged ms l) e
aged_on ms l e inside = record {
  early = inside.early;
  renews = inside.renews;
  step = inside.step;
  unpublished = inside.unpublished;
  ends = inside.ends;
}

early_ticked : (ms : ℕ) (l : LinkState) (e : Exchange) → IsEarly l e → IsOn (time_rules.ticked ms l).link (exchange_put (time_rules.ticked ms l).said e)
unfolding time_rules.ticked
early_ticked ms l e inside = by_test (time_rules.is_overdue (time_rules.aged ms l))
  where
    by_test : (b : Bool) → IsOn (if b then broken (time_rules.aged ms l) else time_rules.keeps_up (time_rules.aged ms l)).link
        (exchange_put (if b then broken (time_rules.aged ms l) else time_rules.keeps_up (time_rules.aged ms l)).said e)
    by_test true = inl (broken_late (time_rules.aged ms l))
    by_test false = keeps_on (time_rules.aged ms l) e inside.early (inr (aged_on ms l e inside))

ticked_on : (ms : ℕ) (l : LinkState) (e : Exchange) → IsOn l e → IsOn (time_rules.ticked ms l).link (exchange_put (time_rules.ticked ms l).said e)
ticked_on ms l e (inl late) = inl (ticked_late ms l late)
ticked_on ms l e (inr inside) = early_ticked ms l e inside

early_wants : (mode : Mode) (l : LinkState) (e : Exchange) → IsEarly l e → IsOn (step_rules.wants mode l).link (exchange_put (step_rules.wants mode l).said e)
unfolding step_rules.wants
early_wants mode l e inside =
    subst (λ o. IsOn (step_rules.wants_in o mode l).link (exchange_put (step_rules.wants_in o mode l).said e))
    (sym (unready l.phase inside.early)) (same_on l e (inr inside))

wants_on : (mode : Mode) (l : LinkState) (e : Exchange) → IsOn l e → IsOn (step_rules.wants mode l).link (exchange_put (step_rules.wants mode l).said e)
wants_on mode l e (inl late) = inl (wants_late mode l late)
wants_on mode l e (inr inside) = early_wants mode l e inside

dials_on : (l : LinkState) (e : Exchange) (b : Bool) → IsOn l e
    → IsOn (if b then with_phase (phase.Dialing false) l else l) (exchange_put [] e)
dials_on l e false h = same_on l e h
dials_on l e true h = inl refl

taken_late : (p : Phase) → is_late p ≡ true → is_late (step_rules.taken_in p) ≡ true
taken_late (phase.Dialing taken) late = refl
taken_late phase.Idle late = late
taken_late other late = late

taken_early : (p : Phase) → is_late p ≡ false → step_rules.taken_in p ≡ p
taken_early (phase.Dialing taken) early = absurd cc
taken_early phase.Idle early = refl
taken_early other early = refl

takes_on : (l : LinkState) (e : Exchange) (b : Bool) → IsOn l e
    → IsOn (if b then record l { closes = false } else record l { phase = step_rules.taken_in l.phase }) (exchange_put [] e)
takes_on l e true h = quiet_on l (record l { closes = false }) e refl refl refl h
takes_on l e false (inl late) = inl (taken_late l.phase late)
takes_on l e false (inr inside) =
    quiet_on l (record l { phase = step_rules.taken_in l.phase }) e (taken_early l.phase inside.early) refl refl (inr inside)

event_on : (h : Happening) (l : LinkState) (e : Exchange) → IsOn l e → IsOn (after h l).link (exchange_after h l e)
event_on (step_rules.Opens url) l e on = opened_on url l e on
event_on step_rules.Refuses l e on = refused_on l e on
event_on step_rules.Closes l e on = closed_on l e on
event_on (step_rules.Hears h) l e on = heard_on h l e on
event_on (step_rules.Ticks ms) l e on = ticked_on ms l e on
event_on (step_rules.Wants mode) l e on = wants_on mode l e on
event_on step_rules.Dials l e on = dials_on l e (open_rules.may_dial l) on
event_on step_rules.Takes l e on = takes_on l e l.closes on

all_on : (happenings : List Happening) (l : LinkState) (e : Exchange) → IsOn l e
    → IsOn (after_all happenings l).link (exchange_all happenings l e)
all_on [] l e on = on
all_on (h ∷ more) l e on = all_on more (after h l).link (exchange_after h l e) (event_on h l e on)

-- ---- the law

some_same : (one other : Remembered) → Some one ≡ Some other → one ≡ other
some_same one other e = cc

asked_by : (l : LinkState) (e : Exchange) (wanted : List ℕ) (r : Remembered) → IsOn l e → l.phase ≡ phase.Republishing wanted
    → l.remembered ≡ Some r → AsksAgain r.id e
asked_by l e wanted r (inl late) is remembers = let bad : false ≡ true = sym (ap is_late is) ∙ late in absurd cc
asked_by l e wanted r (inr inside) is remembers =
    let ends : EndsAgain l.remembered e.put = subst (λ p. EndsIn p l.remembered e.put) is inside.ends in
    record {
      before = ends.before;
      number = ends.number;
      asked = ends.body.retransmit_sequence_number;
      body = ends.body;
      put = ends.is;
      subscription = ends.subscription ∙ ap (λ (x : Remembered). x.id) (some_same ends.r r (sym ends.remembers ∙ remembers));
      message = refl;
      step = inside.step;
      unpublished = inside.unpublished;
    }

pub asked_for : (config : LinkConfig) (happenings : List Happening) (wanted : List ℕ) (r : Remembered)
    → (after_all happenings (new_link config)).link.phase ≡ phase.Republishing wanted
    → (after_all happenings (new_link config)).link.remembered ≡ Some r
    → AsksAgain r.id (exchange_all happenings (new_link config) no_exchange)
asked_for config happenings wanted r is remembers =
    asked_by (after_all happenings (new_link config)).link (exchange_all happenings (new_link config) no_exchange) wanted r
    (all_on happenings (new_link config) no_exchange (inl refl)) is remembers
