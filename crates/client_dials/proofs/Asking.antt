-- On each connection items are asked for where a subscription was made.
use Rattle.std.proofs.Common.{◌≡◌, ◌≤◌, ℕ, ◌+◌, ◌==◌, List, [], ◌∷◌, ◌++◌, map, Option, None, if◌then◌else◌, refl, sym, ap, ◌∙◌, subst, append_assoc, arith}
use Rattle.std.specs.List.{AllByRecursion}
use Rattle.std.proofs.lemmas.List.{append-nil}
use Rattle.ua_channel.specs.declared.heard.Heard.{Heard}
use Rattle.ua_sub_msgs.specs.declared.item.CreateMonitoredItemsRequest.{CreateMonitoredItemsRequest}
use Rattle.link_rules.specs.declared.config.LinkConfig.{LinkConfig}
use Rattle.link_rules.specs.State.{LinkState, new_link}
use Rattle.link_rules.specs.Said.{Said}
use Rattle.link_rules.specs.Step as step_rules
use Rattle.link_rules.specs.Step.{Happening, after, after_all}
use Rattle.link_laws.specs.Asked.{MakesItems, items_asked, items_put}
use Rattle.link_laws.specs.Taken.{heard_reply, id_in, reply_of}
use Rattle.client_links.specs.Links.{Put, Took, passed_by}
use Rattle.client_dials.specs.Spoken.{Spoken, new_spoken, spoken_in, spoken_with}
use Rattle.client_dials.specs.Making.{AreStandard, AsksForMade, asks_for, makes_by, makes_in}
use Rattle.client_dials.proofs.Passing.{passed_at, says_newest, says_nowhere, spoken_join}

-- ---- one list behind another

put_join : (one other : List Said) → items_put (one ++ other) ≡ items_put one ++ items_put other
put_join [] other = refl
put_join (said ∷ one) other =
    ap (λ (x : List CreateMonitoredItemsRequest). items_asked said.told ++ x) (put_join one other)
    ∙ sym (append_assoc (items_asked said.told) (items_put one) (items_put other))

standard_join : (config : LinkConfig) (one other : List CreateMonitoredItemsRequest) → AreStandard config one → AreStandard config other
    → AreStandard config (one ++ other)
standard_join config [] other h rest = rest
standard_join config (r ∷ one) other h rest = (h.0, standard_join config one other h.1 rest)

asks_join : (id : ℕ) (one other : List CreateMonitoredItemsRequest) → asks_for id (one ++ other) ≡ asks_for id one + asks_for id other
asks_join id [] other = omega arith
asks_join id (r ∷ one) other =
    let rest : asks_for id (one ++ other) ≡ asks_for id one + asks_for id other = asks_join id one other in
    omega (arith, rest)

makes_join : (id : ℕ) (one other : List Heard) → makes_in id (one ++ other) ≡ makes_in id one + makes_in id other
makes_join id [] other = omega arith
makes_join id (h ∷ one) other =
    let rest : makes_in id (one ++ other) ≡ makes_in id one + makes_in id other = makes_join id one other in
    omega (arith, rest)

-- ---- what one event asks for

made_standard : (made : Option ℕ) (config : LinkConfig) (list : List CreateMonitoredItemsRequest) → MakesItems made config list → AreStandard config list
made_standard made config [] h = tt
made_standard made config (r ∷ []) h = (record { subscription = refl; items = h.2.items; times = h.2.times }, tt)
made_standard made config (r ∷ another ∷ more) h = absurd h

made_few : (made : Option ℕ) (config : LinkConfig) (id : ℕ) (list : List CreateMonitoredItemsRequest) → MakesItems made config list
    → asks_for id list ≤ makes_by id made
made_few made config id [] h = omega arith
made_few made config id (r ∷ []) h =
    let same : (if r.subscription_id == id then 1 else 0) ≡ makes_by id made =
    ap (λ (n : ℕ). if n == id then 1 else 0) h.2.subscription ∙ sym (ap (λ o. makes_by id o) h.1) in
    omega (arith, same)
made_few made config id (r ∷ another ∷ more) h = absurd h

-- these are heard on a connection, and then these said
asks_more : (config : LinkConfig) (s : Spoken) (taken : List Heard) (said : List Said) (made : Option ℕ) → MakesItems made config (items_put said)
    → ((id : ℕ) → makes_by id made ≤ makes_in id taken) → AsksForMade config s
    → AsksForMade config (record { heard = s.heard ++ taken; said = s.said ++ said })
asks_more config s taken said made makes within asks = record {
  standard = subst (AreStandard config) (sym (put_join s.said said))
      (standard_join config (items_put s.said) (items_put said) asks.standard (made_standard made config (items_put said) makes));
  few = λ id.
      let put : asks_for id (items_put (s.said ++ said)) ≡ asks_for id (items_put s.said) + asks_for id (items_put said) =
      ap (λ (l : List CreateMonitoredItemsRequest). asks_for id l) (put_join s.said said) ∙ asks_join id (items_put s.said) (items_put said) in
      let heard : makes_in id (s.heard ++ taken) ≡ makes_in id s.heard + makes_in id taken = makes_join id s.heard taken in
      let before : asks_for id (items_put s.said) ≤ makes_in id s.heard = asks.few id in
      let now : asks_for id (items_put said) ≤ makes_by id made = made_few made config id (items_put said) makes in
      let there : makes_by id made ≤ makes_in id taken = within id in
      omega (arith, put, heard, before, now, there);
}

-- nothing is heard
says_more : (config : LinkConfig) (s : Spoken) (said : List Said) → MakesItems None config (items_put said) → AsksForMade config s
    → AsksForMade config (record s { said = s.said ++ said })
says_more config s said makes asks =
    subst (λ (l : List Heard). AsksForMade config (record { heard = l; said = s.said ++ said })) (append-nil s.heard)
    (asks_more config s [] said None makes (λ id. omega arith) asks)

-- ---- on all connections

abbrev AllAsk : LinkConfig → List Spoken → Type 0
AllAsk config all = AllByRecursion (AsksForMade config) all

said_all : (config : LinkConfig) (said : List Said) (all : List Spoken) → MakesItems None config (items_put said) → AllAsk config all
    → AllAsk config (spoken_in (map Put said) all)
said_all config said [] makes h = subst (AllAsk config) (sym (says_nowhere said)) tt
said_all config said (s ∷ older) makes h =
    subst (AllAsk config) (sym (says_newest said s older)) (says_more config s said makes h.0, h.1)

heard_all : (config : LinkConfig) (heard : Heard) (said : List Said) (all : List Spoken) → MakesItems (id_in (heard_reply heard)) config (items_put said)
    → AllAsk config all → AllAsk config (spoken_in (map Put said) (spoken_with (Took heard) all))
heard_all config heard said [] makes h = subst (AllAsk config) (sym (says_nowhere said)) tt
heard_all config heard said (s ∷ older) makes h =
    subst (AllAsk config) (sym (says_newest said (record s { heard = s.heard ++ heard ∷ [] }) older))
    (asks_more config s (heard ∷ []) said (id_in (heard_reply heard)) makes (λ id. omega arith) h.0, h.1)

new_asks : (config : LinkConfig) → AsksForMade config new_spoken
new_asks config = record { standard = tt; few = λ id. omega arith }

-- what the crate of a link's laws says
abbrev pub MadeOnce : Type 0
MadeOnce = (h : Happening) (l : LinkState) → MakesItems (id_in (reply_of h)) l.config (items_put (after h l).said)

abbrev pub ConfigStays : Type 0
ConfigStays = (happenings : List Happening) (l : LinkState) → (after_all happenings l).link.config ≡ l.config

event_all : (h : Happening) (l : LinkState) (all : List Spoken) → MakesItems (id_in (reply_of h)) l.config (items_put (after h l).said) → AllAsk l.config all
    → AllAsk l.config (spoken_in (passed_at h l) all)
event_all (step_rules.Opens url) l all makes asks =
    said_all l.config (after (step_rules.Opens url) l).said (new_spoken ∷ all) makes (new_asks l.config, asks)
event_all (step_rules.Hears heard) l all makes asks = heard_all l.config heard (after (step_rules.Hears heard) l).said all makes asks
event_all step_rules.Refuses l all makes asks = said_all l.config (after step_rules.Refuses l).said all makes asks
event_all step_rules.Closes l all makes asks = said_all l.config (after step_rules.Closes l).said all makes asks
event_all (step_rules.Ticks ms) l all makes asks = said_all l.config (after (step_rules.Ticks ms) l).said all makes asks
event_all (step_rules.Wants mode) l all makes asks = said_all l.config (after (step_rules.Wants mode) l).said all makes asks
event_all step_rules.Dials l all makes asks = asks
event_all step_rules.Takes l all makes asks = asks

all_ask : MadeOnce → ConfigStays → (happenings : List Happening) (l : LinkState) (all : List Spoken) → AllAsk l.config all
    → AllAsk l.config (spoken_in (passed_by happenings l) all)
all_ask once stays [] l all asks = asks
all_ask once stays (h ∷ more) l all asks =
    let next : LinkState = (after h l).link in
    let now : List Spoken = spoken_in (passed_at h l) all in
    let same : next.config ≡ l.config = stays (h ∷ []) l in
    subst (AllAsk l.config) (sym (spoken_join (passed_at h l) (passed_by more next) all))
    (subst (λ (config : LinkConfig). AllAsk config (spoken_in (passed_by more next) now)) same
    (all_ask once stays more next now
    (subst (λ (config : LinkConfig). AllAsk config now) (sym same) (event_all h l all (once h l) asks))))

pub items_asked_where_made : MadeOnce → ConfigStays → (config : LinkConfig) (happenings : List Happening)
    → AllByRecursion (AsksForMade config) (spoken_in (passed_by happenings (new_link config)) [])
items_asked_where_made once stays config happenings = all_ask once stays happenings (new_link config) [] tt
