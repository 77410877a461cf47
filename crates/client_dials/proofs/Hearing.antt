-- What a link hears comes on its newest connection.
use Rattle.std.proofs.Common.{◌≡◌, ℕ, List, [], ◌∷◌, ◌++◌, map, Bool, true, false, None, if◌then◌else◌, refl, sym, ap, ◌∙◌, subst, append_assoc}
use Rattle.std.proofs.lemmas.List.{map-append}
use Rattle.std.proofs.lemmas.List.Elements.{filter-append}
use Rattle.ua_base.specs.declared.modes.Mode.{Mode}
use Rattle.ua_channel.specs.declared.heard.Heard.{Heard}
use Rattle.ua_channel.specs.State.{is_deaf}
use Rattle.link_rules.specs.declared.config.LinkConfig.{LinkConfig}
use Rattle.link_rules.specs.declared.phase.Phase.{Phase}
use Rattle.link_rules.specs.declared.phase.Phase.TheVariants as phase
use Rattle.link_rules.specs.State.{LinkState, is_ready, new_link, ready_in, with_phase}
use Rattle.link_rules.specs.Said.{LinkDid, Said, Told, and_then, nothing}
use Rattle.link_rules.specs.Closing.{broken, dropped, stands_in}
use Rattle.link_rules.specs.Opening as open_rules
use Rattle.link_rules.specs.Time as time_rules
use Rattle.link_rules.specs.Step as step_rules
use Rattle.link_rules.specs.Step.{Happening, Hears, after}
use Rattle.link_laws.specs.Lockstep.{is_put, puts}
use Rattle.link_takings.specs.Exchange.{Exchange, anew_in, exchange_after, exchange_all, exchange_put, messages_of, no_exchange}
use Rattle.client_links.specs.Awaited.{AllAwaited, IsAwaited, IsDialling}
use Rattle.client_links.specs.Links.{Passing, Put, Took, passed_by}
use Rattle.client_dials.specs.Spoken.{Spoken, new_spoken, spoken_in, spoken_with}
use Rattle.client_dials.specs.Behind.{IsHeardBehind}
use Rattle.client_dials.proofs.Passing.{IsKept, kept_in, kept_newest, passed_at, says_newest, spoken_join}

-- ---- a link that doesn't stand

-- it stands only where it stood before
abbrev StoodBefore : LinkState → LinkState → Type 0
StoodBefore l next = stands_in next.phase ≡ true → stands_in l.phase ≡ true

stood_if : (b : Bool) (l : LinkState) (one other : LinkDid) → StoodBefore l one.link → StoodBefore l other.link → StoodBefore l (if b then one else other).link
stood_if true l one other h rest = h
stood_if false l one other h rest = rest

broken_stood : (l now : LinkState) → StoodBefore l (broken now).link
unfolding broken
broken_stood l now stands = absurd cc

dropped_stood : (l now : LinkState) → StoodBefore l (dropped now).link
unfolding dropped
dropped_stood l now stands = absurd cc

refused_by : (p : Phase) (l : LinkState) → StoodBefore l (open_rules.refused_in p l).link
refused_by (phase.Dialing taken) l = dropped_stood l l
refused_by phase.Idle l = λ stands. stands
refused_by other l = λ stands. stands

refused_stood : (l : LinkState) → StoodBefore l (open_rules.refused l).link
unfolding open_rules.refused
refused_stood l = refused_by l.phase l

closed_by : (p : Phase) (l : LinkState) → StoodBefore l (open_rules.closed_in p l).link
closed_by phase.Idle l = λ stands. stands
closed_by (phase.Dialing taken) l = λ stands. stands
closed_by other l = dropped_stood l l

closed_stood : (l : LinkState) → StoodBefore l (open_rules.closed l).link
unfolding open_rules.closed
closed_stood l =
    stood_if l.closes l (nothing (record l { closes = false })) (open_rules.closed_in l.phase l) (λ stands. stands) (closed_by l.phase l)

-- what only a ready link does
not_ready : (l : LinkState) → stands_in l.phase ≡ false → is_ready l ≡ false
not_ready l rests = by_phase l.phase rests
  where
    by_phase : (p : Phase) → stands_in p ≡ false → is_ready (record l { phase = p }) ≡ false
    by_phase phase.Idle e = refl
    by_phase (phase.Dialing taken) e = refl
    by_phase (phase.Ready ready) e = absurd cc
    by_phase other e = refl

none_ready : (p : Phase) → stands_in p ≡ false → ready_in p ≡ None
none_ready phase.Idle e = refl
none_ready (phase.Dialing taken) e = refl
none_ready (phase.Ready ready) e = absurd cc
none_ready other e = refl

-- where it stays as it is while it doesn't stand
stood_unless : (l next : LinkState) → (stands_in l.phase ≡ false → stands_in next.phase ≡ false) → StoodBefore l next
stood_unless l next rests stands = by_test (stands_in l.phase) refl
  where
    by_test : (b : Bool) → stands_in l.phase ≡ b → b ≡ true
    by_test true e = refl
    by_test false e = let bad : false ≡ true = sym (rests e) ∙ stands in absurd cc

keeps_rests : (l : LinkState) → stands_in l.phase ≡ false → stands_in (time_rules.keeps_up l).link.phase ≡ false
unfolding time_rules.keeps_up
keeps_rests l rests = by_test (is_ready l) (not_ready l rests)
  where
    by_test : (b : Bool) → b ≡ false
        → stands_in (if b then and_then time_rules.renews_token (time_rules.reads_level l) else nothing l).link.phase ≡ false
    by_test true e = absurd cc
    by_test false e = rests

ticked_rests : (ms : ℕ) (l : LinkState) → stands_in l.phase ≡ false → stands_in (time_rules.ticked ms l).link.phase ≡ false
unfolding time_rules.ticked broken
ticked_rests ms l rests = by_test (time_rules.is_overdue (time_rules.aged ms l))
  where
    by_test : (b : Bool)
        → stands_in (if b then broken (time_rules.aged ms l) else time_rules.keeps_up (time_rules.aged ms l)).link.phase ≡ false
    by_test true = refl
    by_test false = keeps_rests (time_rules.aged ms l) rests

wants_rests : (mode : Mode) (l : LinkState) → stands_in l.phase ≡ false → stands_in (step_rules.wants mode l).link.phase ≡ false
unfolding step_rules.wants
wants_rests mode l rests =
    subst (λ o. stands_in (step_rules.wants_in o mode l).link.phase ≡ false) (sym (none_ready l.phase rests)) rests

dials_stood : (b : Bool) (l : LinkState) → StoodBefore l (if b then with_phase (phase.Dialing false) l else l)
dials_stood true l = λ stands. absurd cc
dials_stood false l = λ stands. stands

taken_stood : (p : Phase) → stands_in (step_rules.taken_in p) ≡ true → stands_in p ≡ true
taken_stood (phase.Dialing taken) stands = absurd cc
taken_stood phase.Idle stands = stands
taken_stood other stands = stands

takes_stood : (b : Bool) (l : LinkState) → StoodBefore l (if b then record l { closes = false } else record l { phase = step_rules.taken_in l.phase })
takes_stood true l = λ stands. stands
takes_stood false l = taken_stood l.phase

-- ---- the newest connection

-- what is said and heard there is the exchange
record IsNewest (e : Exchange) (all : List Spoken) : Type 0 where
  pub spoken : Spoken
  pub older : List Spoken
  pub are : all ≡ spoken ∷ older
  pub heard : spoken.heard ≡ e.taken
  pub put : messages_of spoken.said ≡ e.put

abbrev IsHeld : LinkState → Exchange → List Spoken → Type 0
IsHeld l e all = stands_in l.phase ≡ true → IsNewest e all

messages_join : (one other : List Said) → messages_of (one ++ other) ≡ messages_of one ++ messages_of other
messages_join one other =
    ap (λ (l : List Said). map (λ (s : Said). s.told) l) (filter-append (λ (s : Said). is_put s.told) one other)
    ∙ map-append (λ (s : Said). s.told) (puts one) (puts other)

newest_says : (said : List Said) (e : Exchange) (all : List Spoken) → IsNewest e all → IsNewest (exchange_put said e) (spoken_in (map Put said) all)
newest_says said e all n = record {
  spoken = record n.spoken { said = n.spoken.said ++ said };
  older = n.older;
  are = ap (λ (l : List Spoken). spoken_in (map Put said) l) n.are ∙ says_newest said n.spoken n.older;
  heard = n.heard;
  put = messages_join n.spoken.said said ∙ ap (λ (l : List Told). l ++ messages_of said) n.put;
}

newest_takes : (b : Bool) (h : Heard) (e : Exchange) (all : List Spoken) → b ≡ false → IsNewest e all
    → IsNewest (if b then e else record e { taken = e.taken ++ h ∷ [] }) (spoken_with (Took h) all)
newest_takes true h e all hears n = absurd cc
newest_takes false h e all hears n = record {
  spoken = record n.spoken { heard = n.spoken.heard ++ h ∷ [] };
  older = n.older;
  are = ap (λ (l : List Spoken). spoken_with (Took h) l) n.are;
  heard = ap (λ (l : List Heard). l ++ h ∷ []) n.heard;
  put = n.put;
}

newest_opens : (p : Phase) (e : Exchange) (all : List Spoken) → IsDialling p → IsNewest (anew_in p e) (new_spoken ∷ all)
newest_opens (phase.Dialing taken) e all dialling = record { spoken = new_spoken; older = all; are = refl; heard = refl; put = refl }
newest_opens phase.Idle e all dialling = absurd dialling
newest_opens other e all dialling = absurd dialling

heard_held : (h : Heard) (l : LinkState) (e : Exchange) (all : List Spoken) → is_deaf (step_rules.ear_of l) ≡ false → stands_in l.phase ≡ true → IsHeld l e all
    → IsNewest (exchange_after (Hears h) l e) (spoken_in (passed_at (Hears h) l) all)
heard_held h l e all hears stands held =
    newest_says (after (Hears h) l).said (if is_deaf (step_rules.ear_of l) then e else record e { taken = e.taken ++ h ∷ [] }) (spoken_with (Took h) all)
    (newest_takes (is_deaf (step_rules.ear_of l)) h e all hears (held stands))

event_held : (h : Happening) (l : LinkState) (e : Exchange) (all : List Spoken) → IsAwaited h l → IsHeld l e all
    → IsHeld (after h l).link (exchange_after h l e) (spoken_in (passed_at h l) all)
event_held (step_rules.Opens url) l e all awaited held = λ stands.
    newest_says (open_rules.opened url l).said (anew_in l.phase e) (new_spoken ∷ all) (newest_opens l.phase e all awaited)
event_held (step_rules.Hears h) l e all awaited held = λ stands. heard_held h l e all awaited.0 awaited.1 held
event_held step_rules.Refuses l e all awaited held = λ stands.
    newest_says (open_rules.refused l).said e all (held (refused_stood l stands))
event_held step_rules.Closes l e all awaited held = λ stands.
    newest_says (open_rules.closed l).said e all (held (closed_stood l stands))
event_held (step_rules.Ticks ms) l e all awaited held = λ stands.
    newest_says (time_rules.ticked ms l).said e all (held (stood_unless l (time_rules.ticked ms l).link (ticked_rests ms l) stands))
event_held (step_rules.Wants mode) l e all awaited held = λ stands.
    newest_says (step_rules.wants mode l).said e all (held (stood_unless l (step_rules.wants mode l).link (wants_rests mode l) stands))
event_held step_rules.Dials l e all awaited held = λ stands.
    newest_says [] e all (held (dials_stood (open_rules.may_dial l) l stands))
event_held step_rules.Takes l e all awaited held = λ stands.
    newest_says [] e all (held (takes_stood l.closes l stands))

-- ---- the law

-- whatever passes later
heard_here : (h : Heard) (e : Exchange) (all : List Spoken) (passed : List Passing) → IsNewest e all
    → IsHeardBehind h e (spoken_in passed (spoken_with (Took h) all))
heard_here h e all passed n =
    let there : Spoken = record n.spoken { heard = n.spoken.heard ++ h ∷ [] } in
    let kept : IsKept there (spoken_in passed (there ∷ n.older)) = kept_in passed there (there ∷ n.older) (kept_newest there n.older) in
    record {
      newer = kept.newer;
      spoken = kept.now;
      older = kept.older;
      are = ap (λ (l : List Spoken). spoken_in passed (spoken_with (Took h) l)) n.are ∙ kept.are;
      later = kept.later;
      heard = kept.heard ∙ append_assoc n.spoken.heard (h ∷ []) kept.later ∙ ap (λ (l : List Heard). l ++ h ∷ kept.later) n.heard;
      others = messages_of kept.others;
      put = ap (λ (l : List Said). messages_of l) kept.said ∙ messages_join n.spoken.said kept.others
          ∙ ap (λ (l : List Told). l ++ messages_of kept.others) n.put;
    }

behind : (front : List Happening) (h : Heard) (more : List Happening) (l : LinkState) (e : Exchange) (all : List Spoken) → IsHeld l e all
    → AllAwaited (front ++ Hears h ∷ more) l
    → IsHeardBehind h (exchange_all front l e) (spoken_in (passed_by (front ++ Hears h ∷ more) l) all)
behind [] h more l e all held awaited =
    heard_here h e all (map Put (after (Hears h) l).said ++ passed_by more (after (Hears h) l).link) (held awaited.0.1)
behind (one ∷ front) h more l e all held awaited =
    let next : LinkState = (after one l).link in
    subst (λ (x : List Spoken). IsHeardBehind h (exchange_all front next (exchange_after one l e)) x)
    (sym (spoken_join (passed_at one l) (passed_by (front ++ Hears h ∷ more) next) all))
    (behind front h more next (exchange_after one l e) (spoken_in (passed_at one l) all) (event_held one l e all awaited.0 held) awaited.1)

pub heard_on_connection : (config : LinkConfig) (front : List Happening) (h : Heard) (more : List Happening)
    → AllAwaited (front ++ Hears h ∷ more) (new_link config)
    → IsHeardBehind h (exchange_all front (new_link config) no_exchange)
    (spoken_in (passed_by (front ++ Hears h ∷ more) (new_link config)) [])
heard_on_connection config front h more awaited = behind front h more (new_link config) no_exchange [] (λ stands. absurd cc) awaited
