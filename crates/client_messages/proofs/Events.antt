-- Each event of a client over bytes is shown by one of a client over messages.
use Rattle.std.proofs.Common.{◌≡◌, ℕ, ◌==◌, ◌&&◌, Bool, true, false, cond, refl, sym, ap, subst}
use Rattle.ua_channel.specs.Sharing.{with_end}
use Rattle.link_rules.specs.Opening.{begins_anew}
use Rattle.client_rules.specs.State.{ClientState, is_server, link_of}
use Rattle.client_rules.specs.Acts.{Closes, Happening, Opens, Refuses, Ticks}
use Rattle.client_rules.specs.Step.{after}
use Rattle.client_keeps.specs.Fitting.{FitsClient, FitsHappening}
use Rattle.client_keeps.proofs.Rules.{after_client}
use Rattle.ua_client.specs.declared.event.ClientEvent.TheVariants as event
use Rattle.ua_client.specs.State.{BytesState}
use Rattle.ua_client.specs.Step as bytes
use Rattle.message_ends.specs.Ends.{MessageEnds, obeyed_each, set_end}
use Rattle.message_ends.specs.Showing.{OrdersBring}
use Rattle.message_ends.proofs.Ordering.{IsLawfulFor, ordered}
use Rattle.client_messages.specs.Messages as messages
use Rattle.client_messages.specs.Messages.{MessagesState, renewed_by}
use Rattle.client_messages.specs.Showing.{Brings, Limits, Stands, renewed_firsts}
use Rattle.client_messages.proofs.Awaiting.{blank}
use Rattle.client_messages.proofs.Ending.{ended_stands, talk}
use Rattle.client_messages.proofs.Renewing.{anew_firsts, apart_stands, firsts_same, renewed_stands}

-- what a client orders, whatever happens: each end may be given it, and its limits are known then; and what is put fits
-- where it comes to
pub record Orders : Type 0 where
  pub lawful : (h : Happening) (c : ClientState) → FitsHappening h → FitsClient c
      → (number : ℕ) → IsLawfulFor Limits number (after h c).orders c (after h c).client
  pub brings : (h : Happening) (c : ClientState) → FitsHappening h → FitsClient c → OrdersBring Brings (after h c).orders

pub same_talk : (firsts : ℕ → ℕ) (r : BytesState) (t : MessagesState) → Stands firsts r t → t ≡ talk r.hub t.ends
same_talk firsts r t s = ap (λ (hub : ClientState). talk hub t.ends) (sym s.shows.hub)

-- it is enough to show it where the hub is the same
pub by_hub : (firsts others : ℕ → ℕ) (r x : BytesState) (t : MessagesState) (f : MessagesState → MessagesState)
    → ((ends : MessageEnds) → Stands firsts r (talk r.hub ends) → Stands others x (f (talk r.hub ends)))
    → Stands firsts r t → Stands others x (f t)
by_hub firsts others r x t f shows s =
    let same = same_talk firsts r t s in
    subst (λ (y : MessagesState). Stands others x (f y)) (sym same) (shows t.ends (subst (λ (y : MessagesState). Stands firsts r y) same s))

-- what is no event leaves both alone
pub event_by : (b : Bool) (firsts : ℕ → ℕ) (r x : BytesState) (ends : MessageEnds) (y : MessagesState) → Stands firsts r (talk r.hub ends)
    → (b ≡ true → Stands firsts x y) → Stands firsts (cond b x r) (cond b y (talk r.hub ends))
event_by true firsts r x ends y s shows = shows refl
event_by false firsts r x ends y s shows = s

module _ (orders : Orders) where
  -- it happens, and the ends obey
  pub happened : (h : Happening) (firsts : ℕ → ℕ) (r : BytesState) (ends : MessageEnds) → FitsHappening h → Stands firsts r (talk r.hub ends)
      → Stands firsts (bytes.with_ends r.channels (after h r.hub)) (messages.with_ends ends (after h r.hub))
  happened h firsts r ends fits s =
      ordered FitsClient Limits Brings firsts (after h r.hub).orders (after h r.hub).client r (talk r.hub ends)
      (orders.lawful h r.hub fits s.keeps) (after_client h r.hub fits s.keeps) (orders.brings h r.hub fits s.keeps) s

  happened_ends : (h : Happening) (firsts : ℕ → ℕ) (r : BytesState) (ends : MessageEnds) → FitsHappening h → Stands firsts r (talk r.hub ends)
      → Stands firsts (bytes.ended (bytes.with_ends r.channels (after h r.hub))) (messages.ended (messages.with_ends ends (after h r.hub)))
  happened_ends h firsts r ends fits s =
      ended_stands firsts (bytes.with_ends r.channels (after h r.hub)) (obeyed_each (after h r.hub).orders ends) (happened h firsts r ends fits s)

  pub refused : (firsts : ℕ → ℕ) (server : ℕ) (r : BytesState) (t : MessagesState) → Stands firsts r t
      → Stands firsts (bytes.stepped (event.Refused server) r) (messages.is_refused server t)
  refused firsts server r t s =
      by_hub firsts firsts r (bytes.stepped (event.Refused server) r) t (messages.is_refused server)
      (λ ends shown. event_by (is_server server r.hub) firsts r (bytes.ended (bytes.happened (event.Refused server) r)) ends
      (messages.ended (messages.refused server (talk r.hub ends))) shown (λ e. happened_ends (Refuses server) firsts r ends tt shown)) s

  pub closed : (firsts : ℕ → ℕ) (server : ℕ) (r : BytesState) (t : MessagesState) → Stands firsts r t
      → Stands firsts (bytes.stepped (event.Closed server) r) (messages.closes server t)
  closed firsts server r t s =
      by_hub firsts firsts r (bytes.stepped (event.Closed server) r) t (messages.closes server)
      (λ ends shown. event_by (is_server server r.hub) firsts r (bytes.ended (bytes.happened (event.Closed server) r)) ends
      (messages.ended (messages.closed server (talk r.hub ends))) shown (λ e. happened_ends (Closes server) firsts r ends tt shown)) s

  pub waited : (firsts : ℕ → ℕ) (ms : ℕ) (r : BytesState) (t : MessagesState) → Stands firsts r t
      → Stands firsts (bytes.stepped (event.Tick ms) r) (messages.waits ms t)
  waited firsts ms r t s =
      by_hub firsts firsts r (bytes.stepped (event.Tick ms) r) t (messages.waits ms)
      (λ ends shown. happened_ends (Ticks ms) firsts r ends tt shown) s

  -- ---- a connection that is opened

  abbrev firsts_by : Bool → ℕ → (ℕ → ℕ) → ℕ → ℕ
  firsts_by b server firsts k = cond (k == server && b) 1 (firsts k)

  true_firsts : (b : Bool) (first : ℕ) → cond (b && true) 1 first ≡ cond b 1 first
  true_firsts true first = refl
  true_firsts false first = refl

  false_firsts : (b : Bool) (first : ℕ) → cond (b && false) 1 first ≡ first
  false_firsts true first = refl
  false_firsts false first = refl

  opened_by : (b : Bool) (firsts : ℕ → ℕ) (server : ℕ) (r : BytesState) (ends : MessageEnds) → begins_anew (link_of server r.hub) ≡ b
      → Stands firsts r (talk r.hub ends)
      → Stands (firsts_by b server firsts)
      (bytes.ended (bytes.with_ends (cond b (with_end server blank r.channels) r.channels) (after (Opens server) r.hub)))
      (messages.ended (messages.with_ends (cond b (set_end server (renewed_by (ends server)) ends) ends) (after (Opens server) r.hub)))
  opened_by true firsts server r ends e s =
      happened_ends (Opens server) (firsts_by true server firsts) (record r { channels = with_end server blank r.channels })
      (set_end server (renewed_by (ends server)) ends) tt
      (firsts_same (anew_firsts server firsts) (firsts_by true server firsts) (record r { channels = with_end server blank r.channels })
      (set_end server (renewed_by (ends server)) ends) (λ k. true_firsts (k == server) (firsts k))
      (renewed_stands firsts server r ends (apart_stands server r.hub e) s))
  opened_by false firsts server r ends e s =
      happened_ends (Opens server) (firsts_by false server firsts) r ends tt
      (firsts_same firsts (firsts_by false server firsts) r ends (λ k. false_firsts (k == server) (firsts k)) s)

  opens_by : (b : Bool) (firsts : ℕ → ℕ) (server : ℕ) (r : BytesState) (ends : MessageEnds) → Stands firsts r (talk r.hub ends)
      → Stands (firsts_by (b && begins_anew (link_of server r.hub)) server firsts)
      (cond b (bytes.ended (bytes.happened (event.Opened server) r)) r)
      (cond b (messages.ended (messages.opened server (talk r.hub ends))) (talk r.hub ends))
  opens_by true firsts server r ends s = opened_by (begins_anew (link_of server r.hub)) firsts server r ends refl s
  opens_by false firsts server r ends s =
      firsts_same firsts (firsts_by false server firsts) r ends (λ k. false_firsts (k == server) (firsts k)) s

  pub opened : (firsts : ℕ → ℕ) (server : ℕ) (r : BytesState) (t : MessagesState) → Stands firsts r t
      → Stands (renewed_firsts server r.hub firsts) (bytes.stepped (event.Opened server) r) (messages.connects server t)
  opened firsts server r t s =
      by_hub firsts (renewed_firsts server r.hub firsts) r (bytes.stepped (event.Opened server) r) t (messages.connects server)
      (λ ends shown. opens_by (is_server server r.hub) firsts server r ends shown) s
