-- The log of a set over bytes is that of the same set over whole messages.
use Rattle.std.proofs.Common.{◌≡◌, ℕ, ℤ, ◌^◌, ◌≤◌, ◌<◌, pos, negsuc, Bool, true, List, [], ◌∷◌, ◌++◌, refl, sym, ap, subst, ◌∙◌, arith, FitsSigned}
use Rattle.std.proofs.lemmas.Bool.Decides.{nat_tests}
use Rattle.std.specs.Int.{w64}
use Rattle.std.specs.List.{AllByRecursion}
use Rattle.std.specs.Prelude.{Ok}
use Rattle.ua_base.specs.declared.modes.SetMode.{SetMode}
use Rattle.ua_base.specs.declared.modes.SetMode.TheVariants.{Direct, Hot, Warm, Cold}
use Rattle.set_model.specs.declared.source.Change.{Change}
use Rattle.scenario.specs.declared.line.Line.{Line}
use Rattle.scenario.specs.declared.line.Line.TheVariants as line
use Rattle.scenario.specs.declared.rules.Rules.{Rules}
use Rattle.scenario.specs.Faults.{fits_value}
use Rattle.scenario.specs.Scenario.{scenario_of}
use Rattle.scenario.specs.Valid.{AllStand, IsChange, Stands}
use Rattle.scenario.specs.Past.{items_in}
use Rattle.scenario.proofs.ValidLemmas.{valid_lines}
use Rattle.set_rules.specs.World.{after_all}
use Rattle.set_world.specs.Bytes.{beginning, nodes}
use Rattle.set_world.specs.State.{WorldState, new_world, world_after}
use Rattle.server_keeps.specs.Fitting.{FitsChange}
use Rattle.set_messages.specs.Fitting.{FitsLine}
use Rattle.set_messages.specs.Showing.{SetIsShown}
use Rattle.set_messages.specs.World.{messages_after}
use Rattle.direct_world.specs.State as direct
use Rattle.direct_world.specs.World.{after as direct_line, after_all as direct_after, new_world as direct_new, world_of as direct_world_of}
use Rattle.set_world.specs.declared.world.World.TheVariants as world
use Rattle.set_world.specs.Worlds.{all_taken, lines_of, world_of}
use Rattle.uaset.specs.Answer.{client_log, defined_in, defined_log, log_over_messages, size_of}

-- ---- the numbers of a scenario's lines are those that their types hold

signed_of : (value : ℤ) → fits_value value ≡ true → FitsSigned w64 value
signed_of (pos number) fits = record { sfits = grind (arith, nat_tests) }
signed_of (negsuc below) fits = record { sfits = grind (arith, nat_tests) }

time_of : (time : ℕ) → time ≤ 10 ^ 18 → FitsSigned w64 (pos time)
time_of time few = record { sfits = omega (arith, few) }

change_fits : (items : ℕ) (change : Change) → IsChange items change → FitsChange change
change_fits items change is = record {
  value = signed_of change.value is.value_fits;
  time = subst (FitsSigned w64) (sym is.time_is) (time_of is.time is.time_fits.1);
  pico = let few = is.pico_fits in omega (arith, few);
}

line_fits : (rules : Rules) (before : List Line) (l : Line) → Stands rules before l → FitsLine l
line_fits rules before (line.Change change) stands = change_fits (items_in before) change stands.1
line_fits rules before (line.Level server level) stands = let few = stands.suit.1.1 in omega (arith, few)
line_fits rules before other stands = tt

pub lines_fit : (rules : Rules) (before lines : List Line) → AllStand rules before lines → AllByRecursion FitsLine lines
lines_fit rules before [] stand = tt
lines_fit rules before (l ∷ lines) stand = (line_fits rules before l stand.0, lines_fit rules (before ++ l ∷ []) lines stand.1)

-- ---- the world of the program is that of the definition

direct_stays : (lines : List Line) (w : direct.WorldState) → all_taken lines (world.Direct w) ≡ world.Direct (direct_after lines w)
direct_stays [] w = refl
direct_stays (l ∷ lines) w = direct_stays lines (direct_line l w)

abbrev after_lines : List Line → WorldState → WorldState
after_lines [] w = w
after_lines (l ∷ lines) w = after_lines lines (world_after l w)

redundant_stays : (lines : List Line) (w : WorldState) → all_taken lines (world.Redundant w) ≡ world.Redundant (after_lines lines w)
redundant_stays [] w = refl
redundant_stays (l ∷ lines) w = redundant_stays lines (world_after l w)

same_set : (lines : List Line) (w : WorldState) → (after_lines lines w).set ≡ after_all nodes (beginning w.mode w.servers w.items) w.items lines w.set
same_set [] w = refl
same_set (l ∷ lines) w = same_set lines (world_after l w)

pub direct_log : (servers items queue : ℕ) (oldest : Bool) (lines : List Line)
    → lines_of (all_taken lines (world_of Direct servers items queue oldest)) ≡ (direct_world_of servers items oldest queue lines).log.lines
direct_log servers items queue oldest lines = ap lines_of (direct_stays lines (direct_new servers items oldest queue))

-- what the law of sets over messages says
abbrev pub ShowsBytes : Type 0
ShowsBytes = (mode : SetMode) (servers items queue : ℕ) (oldest : Bool) (lines : List Line) → servers ≤ 8 → items < 2 ^ 8 → queue < 2 ^ 32 → AllByRecursion FitsLine lines
    → SetIsShown (after_all nodes (beginning mode servers items) items lines (new_world mode servers items queue oldest).set) (messages_after mode servers items queue oldest lines)

abbrev pub OnlyStanding : Type 0
OnlyStanding = (rules : Rules) (bytes : List ℕ) (lines : List Line) → scenario_of rules bytes ≡ Ok lines → AllStand rules [] lines

-- of a redundant set of this size
bytes_log : OnlyStanding → ShowsBytes → (rules : Rules) (bytes : List ℕ) (lines : List Line) (mode : SetMode) → scenario_of rules bytes ≡ Ok lines
    → (size_of lines).mode ≡ mode → let size = size_of lines in
    lines_of (world.Redundant (after_lines lines (new_world mode size.servers size.items size.queue size.oldest))) ≡ log_over_messages lines
unfolding log_over_messages
bytes_log standing shows rules bytes lines mode h same =
    let valid = valid_lines rules bytes lines h in
    let size = size_of lines in
    let servers : size.servers ≡ valid.servers = ap (λ (ls : List Line). (size_of ls).servers) valid.lines_are in
    let items : size.items ≡ valid.items = ap (λ (ls : List Line). (size_of ls).items) valid.lines_are in
    let queue : size.queue ≡ valid.queue = ap (λ (ls : List Line). (size_of ls).queue) valid.lines_are in
    let is = shows mode size.servers size.items size.queue size.oldest lines (omega (arith, servers, valid.servers_fit.1)) (omega (arith, items, valid.items_fit.1))
    (omega (arith, queue, valid.queue_fits.1)) (lines_fit rules [] lines (standing rules bytes lines h)) in
    ap (λ w. w.client.hub.log.lines) (same_set lines (new_world mode size.servers size.items size.queue size.oldest)) ∙ ap (λ c. c.log.lines) is.client
    ∙ ap (λ (m : SetMode). (messages_after m size.servers size.items size.queue size.oldest lines).client.hub.log.lines) (sym same)

same_in : OnlyStanding → ShowsBytes → (rules : Rules) (bytes : List ℕ) (lines : List Line) (mode : SetMode) → scenario_of rules bytes ≡ Ok lines
    → (size_of lines).mode ≡ mode → let size = size_of lines in
    lines_of (all_taken lines (world_of mode size.servers size.items size.queue size.oldest)) ≡ defined_in mode lines
same_in standing shows rules bytes lines Direct h same =
    let size = size_of lines in direct_log size.servers size.items size.queue size.oldest lines
same_in standing shows rules bytes lines Hot h same =
    let size = size_of lines in
    ap lines_of (redundant_stays lines (new_world Hot size.servers size.items size.queue size.oldest)) ∙ bytes_log standing shows rules bytes lines Hot h same
same_in standing shows rules bytes lines Warm h same =
    let size = size_of lines in
    ap lines_of (redundant_stays lines (new_world Warm size.servers size.items size.queue size.oldest)) ∙ bytes_log standing shows rules bytes lines Warm h same
same_in standing shows rules bytes lines Cold h same =
    let size = size_of lines in
    ap lines_of (redundant_stays lines (new_world Cold size.servers size.items size.queue size.oldest)) ∙ bytes_log standing shows rules bytes lines Cold h same

pub same_log : OnlyStanding → ShowsBytes → (rules : Rules) (bytes : List ℕ) (lines : List Line) → scenario_of rules bytes ≡ Ok lines → client_log lines ≡ defined_log lines
same_log standing shows rules bytes lines h = same_in standing shows rules bytes lines (size_of lines).mode h refl
