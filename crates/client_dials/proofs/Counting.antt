-- A link has a connection for each dial at most.
use Rattle.std.proofs.Common.{◌≡◌, ◌≤◌, ℕ, zero, suc, ◌+◌, List, [], ◌∷◌, ◌++◌, map, length, Bool, true, false, if◌then◌else◌, refl, ap, ◌∙◌, arith}
use Rattle.ua_channel.specs.declared.heard.Heard.{Heard}
use Rattle.link_rules.specs.declared.config.LinkConfig.{LinkConfig}
use Rattle.link_rules.specs.declared.phase.Phase.{Phase}
use Rattle.link_rules.specs.declared.phase.Phase.TheVariants as phase
use Rattle.link_rules.specs.State.{LinkState, new_link, with_phase}
use Rattle.link_rules.specs.Said.{Said}
use Rattle.link_rules.specs.Opening.{dials, may_dial, opened}
use Rattle.link_rules.specs.Step as step_rules
use Rattle.link_rules.specs.Step.{Happening, after}
use Rattle.link_laws.specs.Counted.{dial_at, dials_in, ticks_in}
use Rattle.client_links.specs.Awaited.{AllAwaited, IsAwaited, IsDialling}
use Rattle.client_links.specs.Links.{Put, Took, passed_by}
use Rattle.client_dials.specs.Spoken.{Spoken, new_spoken, spoken_in, spoken_with}
use Rattle.client_dials.proofs.Calling.{IsNoDial, calls, opened_calm, stays_calm}
use Rattle.client_dials.proofs.Passing.{passed_at, spoken_join}

-- ---- what is no new connection

says_none : (said : List Said) (all : List Spoken) → length (spoken_in (map Put said) all) ≡ length all
says_none [] all = refl
says_none (one ∷ said) [] = says_none said []
says_none (one ∷ said) (s ∷ older) = says_none said (record s { said = s.said ++ one ∷ [] } ∷ older)

takes_none : (h : Heard) (all : List Spoken) → length (spoken_with (Took h) all) ≡ length all
takes_none h [] = refl
takes_none h (s ∷ older) = refl

-- ---- the one that a link waits for

one_call : (p : Phase) → calls p ≤ 1
one_call (phase.Dialing taken) = omega arith
one_call phase.Idle = omega arith
one_call other = omega arith

calls_once : (p : Phase) → IsDialling p → calls p ≡ 1
calls_once (phase.Dialing taken) dialling = refl
calls_once phase.Idle dialling = absurd dialling
calls_once other dialling = absurd dialling

calls_by : (n : ℕ) (h : Happening) (l : LinkState) → calls l.phase ≡ n → IsNoDial h → calls (after h l).link.phase ≤ calls l.phase
calls_by zero h l e other = let none : calls (after h l).link.phase ≡ 0 = stays_calm h l other e in omega (arith, none)
calls_by (suc n) h l e other =
    let most : calls (after h l).link.phase ≤ 1 = one_call (after h l).link.phase in
    let some : calls l.phase ≡ suc n = e in
    omega (arith, most, some)

-- ---- one event

-- the connections, and the one that it waits for
abbrev IsFew : Happening → LinkState → List Spoken → Type 0
IsFew h l all = length (spoken_in (passed_at h l) all) + calls (after h l).link.phase ≤ length all + calls l.phase + dial_at h l

other_few : (h : Happening) (l : LinkState) (all : List Spoken) → IsNoDial h → length (spoken_in (passed_at h l) all) ≡ length all → IsFew h l all
other_few h l all other same =
    let fewer : calls (after h l).link.phase ≤ calls l.phase = calls_by (calls l.phase) h l refl other in
    omega (arith, same, fewer)

opened_few : (url : _) (l : LinkState) (all : List Spoken) → IsDialling l.phase → IsFew (step_rules.Opens url) l all
opened_few url l all dialling =
    let none : calls (after (step_rules.Opens url) l).link.phase ≡ 0 = opened_calm url l dialling in
    let one : calls l.phase ≡ 1 = calls_once l.phase dialling in
    let same : length (spoken_in (passed_at (step_rules.Opens url) l) all) ≡ suc (length all) =
    says_none (opened url l).said (new_spoken ∷ all) in
    omega (arith, none, one, same)

dial_calls : (b : Bool) (l : LinkState) → calls (if b then with_phase (phase.Dialing false) l else l).phase ≤ calls l.phase + (if b then 1 else 0)
dial_calls true l = omega arith
dial_calls false l = omega arith

dials_few : (l : LinkState) (all : List Spoken) → IsFew step_rules.Dials l all
dials_few l all =
    let fewer : calls (dials l).phase ≤ calls l.phase + dial_at step_rules.Dials l = dial_calls (may_dial l) l in
    omega (arith, fewer)

event_few : (h : Happening) (l : LinkState) (all : List Spoken) → IsAwaited h l → IsFew h l all
event_few (step_rules.Opens url) l all awaited = opened_few url l all awaited
event_few (step_rules.Hears h) l all awaited =
    other_few (step_rules.Hears h) l all tt
    (says_none (after (step_rules.Hears h) l).said (spoken_with (Took h) all) ∙ takes_none h all)
event_few step_rules.Refuses l all awaited = other_few step_rules.Refuses l all tt (says_none (after step_rules.Refuses l).said all)
event_few step_rules.Closes l all awaited = other_few step_rules.Closes l all tt (says_none (after step_rules.Closes l).said all)
event_few (step_rules.Ticks ms) l all awaited =
    other_few (step_rules.Ticks ms) l all tt (says_none (after (step_rules.Ticks ms) l).said all)
event_few (step_rules.Wants mode) l all awaited =
    other_few (step_rules.Wants mode) l all tt (says_none (after (step_rules.Wants mode) l).said all)
event_few step_rules.Dials l all awaited = dials_few l all
event_few step_rules.Takes l all awaited = other_few step_rules.Takes l all tt refl

-- ---- the law

all_few : (happenings : List Happening) (l : LinkState) (all : List Spoken) → AllAwaited happenings l
    → length (spoken_in (passed_by happenings l) all) ≤ length all + calls l.phase + dials_in happenings l
all_few [] l all awaited = omega arith
all_few (h ∷ more) l all awaited =
    let next : LinkState = (after h l).link in
    let now : List Spoken = spoken_in (passed_at h l) all in
    let one : length now + calls next.phase ≤ length all + calls l.phase + dial_at h l = event_few h l all awaited.0 in
    let rest : length (spoken_in (passed_by more next) now) ≤ length now + calls next.phase + dials_in more next =
    all_few more next now awaited.1 in
    let same : length (spoken_in (passed_by (h ∷ more) l) all) ≡ length (spoken_in (passed_by more next) now) =
    ap (λ (x : List Spoken). length x) (spoken_join (passed_at h l) (passed_by more next) all) in
    omega (arith, one, rest, same)

-- what the crate of a link's laws says
abbrev pub DialsPaced : Type 0
DialsPaced = (config : LinkConfig) (happenings : List Happening) → dials_in happenings (new_link config) ≤ ticks_in happenings + 1

pub connections_few : DialsPaced → (config : LinkConfig) (happenings : List Happening) → AllAwaited happenings (new_link config)
    → length (spoken_in (passed_by happenings (new_link config)) []) ≤ ticks_in happenings + 1
connections_few paced config happenings awaited =
    let few : length (spoken_in (passed_by happenings (new_link config)) []) ≤ 0 + 0 + dials_in happenings (new_link config) =
    all_few happenings (new_link config) [] awaited in
    let most : dials_in happenings (new_link config) ≤ ticks_in happenings + 1 = paced config happenings in
    omega (arith, few, most)
