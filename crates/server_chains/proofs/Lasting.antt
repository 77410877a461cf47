-- A life of a subscription in which no Disabled was asked for, also after its end.
use Rattle.std.proofs.Common.{◌≡◌, ℕ, ◌==◌, List, [], ◌∷◌, ◌++◌, Bool, true, false, cond, Option, Some, None, refl, sym, ap, ◌∙◌, subst, append_assoc, arith}
use Rattle.std.proofs.lemmas.Bool.Decides.{nat_tests}
use Rattle.std.proofs.lemmas.List.{append-nil}
use Rattle.set_model.specs.declared.source.Change.{Change}
use Rattle.set_model.specs.Source.{last_of, of_item}
use Rattle.redundancy_nodes.proofs.Newest.{newest}
use Rattle.subscription.specs.declared.spec.SubSpec.{SubSpec}
use Rattle.subscription.specs.State.{ItemState, SubState}
use Rattle.subscription.specs.Items.{item_of}
use Rattle.subscription.specs.Calls.{node_of}
use Rattle.subscription.specs.History.{AreAllowed, Call, Feed, IsAllowed, state_of}
use Rattle.subscription.specs.Linked.{AreLinked}
use Rattle.subscription.specs.Sources.{GiveLast, GivesLast, IsLastOf, known_after, known_with}
use Rattle.subscription.specs.Streams.{entries_of}
use Rattle.server_rules.specs.declared.config.ServerConfig.{ServerConfig}
use Rattle.server_rules.specs.State.{ServerState, new_server}
use Rattle.server_rules.specs.Said.{Did}
use Rattle.server_rules.specs.Step.{Happening}
use Rattle.server_rules.specs.Items.{current_of}
use Rattle.server_laws.specs.Course.{AreAsked, IsAskedDoing, IsAskedMove, IsCourse, core_of, fed_in, life_of}
use Rattle.server_laws.specs.Lives.{Life, Lives, Over, Unborn, born, ended, life_after, life_with, messages_in, with_call, with_doing}
use Rattle.server_laws.specs.Messages.{AreMessages}
use Rattle.server_laws.specs.Moves.{Acknowledges, Adds, Answers, AreFair, Asks, Core, Cycles, Does, Doing, Enables, Ends, Enters, Goes, IsFair, IsFairly, Issues, Makes, Modes, Modifies, Move, Removes, Repeats, Sends, call_of, moved}
use Rattle.server_laws.specs.Whole.{NeverOff}
use Rattle.server_laws.proofs.Currents.{newest_both}
use Rattle.server_laws.proofs.Neighbours.{AreNewest, known_all, known_by, known_more}
use Rattle.server_laws.proofs.Saying.{Knows, are_messages}
use Rattle.server_laws.proofs.Whole.{AreOn, IsOn}
use Rattle.server_chains.specs.Chains.{EachTold, IsChangeOf, IsOfLife, TellsChains, joined, messages_told}
use Rattle.server_chains.proofs.Linking.{Links, linked_later, linked_of}
use Rattle.server_chains.proofs.Telling.{changes_more, changes_of, items_of, told_all}

-- ---- the current values

newest_with : (move : Move) (c : Core) (known : List Change) → AreNewest c known → AreNewest (moved move c) (known_by move known)
newest_with (Makes spec start) c known h = h
newest_with (Does id doing) c known h = h
newest_with (Enters change) c known h = λ node. newest_both node change c.current known (h node)
newest_with (Ends id) c known h = h
newest_with (Asks call) c known h = h
newest_with Issues c known h = h
newest_with (Repeats id number) c known h = h
newest_with (Answers answer) c known h = h

-- ---- calls that give each item its newest change, and set no mode to Disabled

record IsSteady (spec : SubSpec) (start : ℕ) (calls : List Call) (known : List Change) : Type 0 where
  first : List Change
  known_is : known_after first calls ≡ known
  gives : GiveLast spec start first calls
  allowed : AreAllowed calls
  on : AreOn calls

-- more may be fed after the end
record WasSteady (spec : SubSpec) (start : ℕ) (calls : List Call) (known : List Change) : Type 0 where
  before : List Change
  later : List Change
  parts : known ≡ before ++ later
  was : IsSteady spec start calls before

abbrev Steady : Life → List Change → Type 0
Steady Unborn known = Unit {0}
Steady (Lives spec start calls) known = IsSteady spec start calls known
Steady (Over spec start calls) known = WasSteady spec start calls known

record IsGiven (call : Call) (s : SubState) (known : List Change) : Type 0 where
  gives : GivesLast call s known
  same : known_with call known ≡ known
  allowed : IsAllowed call
  on : IsOn call

node_given : (found : Option ItemState) (current known : List Change) → ((node : ℕ) → last_of node current ≡ last_of node known)
    → IsLastOf found (current_of (node_of found) current) known
node_given None current known h = tt
node_given (Some item) current known h = h item.node

given : (happenings : List Happening) (id : ℕ) (doing : Doing) (current known : List Change) (s : SubState) → NeverOff happenings id → IsAskedDoing happenings id doing
    → IsFairly doing → ((node : ℕ) → last_of node current ≡ last_of node known) → IsGiven (call_of doing current (Some s)) s known
given happenings id (Adds spec) current known s never asked fair h = record { gives = h spec.node; same = refl; allowed = fair; on = tt }
given happenings id (Removes item) current known s never asked fair h = record { gives = tt; same = refl; allowed = tt; on = tt }
given happenings id (Modes item mode) current known s never asked fair h =
    record { gives = node_given (item_of item s.items) current known h; same = refl; allowed = tt; on = never mode asked }
given happenings id (Cycles queued) current known s never asked fair h = record { gives = tt; same = refl; allowed = tt; on = tt }
given happenings id (Sends now) current known s never asked fair h = record { gives = tt; same = refl; allowed = tt; on = tt }
given happenings id (Acknowledges number) current known s never asked fair h = record { gives = tt; same = refl; allowed = tt; on = tt }
given happenings id (Modifies spec now) current known s never asked fair h = record { gives = tt; same = refl; allowed = tt; on = tt }
given happenings id (Enables enabled) current known s never asked fair h = record { gives = tt; same = refl; allowed = tt; on = tt }
given happenings id Goes current known s never asked fair h = record { gives = tt; same = refl; allowed = tt; on = tt }

steady_doing : (happenings : List Happening) (id other : ℕ) (doing : Doing) (life : Life) (c : Core) (known : List Change) (b : Bool) → (other == id) ≡ b
    → NeverOff happenings id → IsAskedDoing happenings other doing → IsFairly doing → AreNewest c known → Steady life known
    → Steady (cond b (with_doing doing c.current life) life) known
steady_doing happenings id other doing Unborn c known true test never asked fair newest h = tt
steady_doing happenings id other doing (Lives spec start calls) c known true test never asked fair newest h =
    let s : SubState = state_of spec start calls in
    let same : other ≡ id = grind (arith, nat_tests) in
    let one = given happenings id doing c.current (known_after h.first calls) s never (subst (λ n. IsAskedDoing happenings n doing) same asked) fair
    (λ node. newest node ∙ ap (last_of node) (sym h.known_is)) in
    record {
      first = h.first;
      known_is = one.same ∙ h.known_is;
      gives = (one.gives, h.gives);
      allowed = (one.allowed, h.allowed);
      on = (one.on, h.on);
    }
steady_doing happenings id other doing (Over spec start calls) c known true test never asked fair newest h = h
steady_doing happenings id other doing life c known false test never asked fair newest h = h

steady_fed : (change : Change) (life : Life) (known : List Change) → Steady life known → Steady (with_call (Feed change) life) (known ++ change ∷ [])
steady_fed change Unborn known h = tt
steady_fed change (Lives spec start calls) known h = record {
  first = h.first;
  known_is = ap (λ l. l ++ change ∷ []) h.known_is;
  gives = (tt, h.gives);
  allowed = (tt, h.allowed);
  on = (tt, h.on);
}
steady_fed change (Over spec start calls) known h = record {
  before = h.before;
  later = h.later ++ change ∷ [];
  parts = ap (λ l. l ++ change ∷ []) h.parts ∙ append_assoc h.before h.later (change ∷ []);
  was = h.was;
}

steady_made : (spec : SubSpec) (start : ℕ) (life : Life) (known : List Change) (b : Bool) → Steady life known → Steady (cond b (born spec start life) life) known
steady_made spec start Unborn known true h = record { first = known; known_is = refl; gives = tt; allowed = tt; on = tt }
steady_made spec start (Lives old began calls) known true h = h
steady_made spec start (Over old began calls) known true h = h
steady_made spec start life known false h = h

steady_ended : (life : Life) (known : List Change) (b : Bool) → Steady life known → Steady (cond b (ended life) life) known
steady_ended Unborn known true h = tt
steady_ended (Lives spec start calls) known true h = record { before = known; later = []; parts = sym (append-nil known); was = h }
steady_ended (Over spec start calls) known true h = h
steady_ended life known false h = h

steady_with : (happenings : List Happening) (id : ℕ) (move : Move) (life : Life) (c : Core) (known : List Change) → NeverOff happenings id
    → IsAskedMove happenings move → IsFair move c → AreNewest c known → Steady life known → Steady (life_with id move c life) (known_by move known)
steady_with happenings id (Makes spec start) life c known never asked fair newest h = steady_made spec start life known (spec.id == id) h
steady_with happenings id (Does other doing) life c known never asked fair newest h =
    steady_doing happenings id other doing life c known (other == id) refl never asked fair newest h
steady_with happenings id (Enters change) life c known never asked fair newest h = steady_fed change life known h
steady_with happenings id (Ends other) life c known never asked fair newest h = steady_ended life known (other == id) h
steady_with happenings id (Asks call) life c known never asked fair newest h = h
steady_with happenings id Issues life c known never asked fair newest h = h
steady_with happenings id (Repeats other number) life c known never asked fair newest h = h
steady_with happenings id (Answers answer) life c known never asked fair newest h = h

steady_all : (happenings : List Happening) (id : ℕ) (moves : List Move) (life : Life) (c : Core) (known : List Change) → NeverOff happenings id
    → AreAsked happenings moves → AreFair moves c → AreNewest c known → Steady life known → Steady (life_after id moves c life) (known_all moves known)
steady_all happenings id [] life c known never asked fair newest h = h
steady_all happenings id (move ∷ moves) life c known never asked fair newest h =
    steady_all happenings id moves (life_with id move c life) (moved move c) (known_by move known) never asked.1 fair.1 (newest_with move c known newest)
    (steady_with happenings id move life c known never asked.0 fair.0 newest h)

-- ---- what it told

-- with the calls of a life
abbrev pub TellsLife : ℕ → Life → List Change → Did → Type 0
TellsLife id life known did = (tells : TellsChains id known did) × IsOfLife life tells.spec tells.start tells.calls

chains_by : Links → (id : ℕ) (spec : SubSpec) (start : ℕ) (calls : List Call) (known before later : List Change) (did : Did) → known ≡ before ++ later
    → IsSteady spec start calls before → AreMessages id (messages_in (Lives spec start calls)) did → TellsLife id (Lives spec start calls) known did
chains_by laws id spec start calls known before later did parts h are = (
  record {
    spec = spec;
    start = start;
    calls = calls;
    messages = are;
    told = told_all spec start calls;
    linked = λ item added is.
        subst (λ k. AreLinked added.queue (of_item added.node k) (entries_of item (joined (messages_told spec start calls)))) (sym parts)
        (linked_later added.queue added.node before later (entries_of item (joined (messages_told spec start calls)))
        (subst (λ k. AreLinked added.queue (of_item added.node k) (entries_of item (joined (messages_told spec start calls)))) h.known_is
        (linked_of laws spec start h.first item calls added h.allowed h.gives h.on is)));
    items = items_of laws.streams spec start h.first calls h.gives h.on;
    changes = subst (λ k. EachTold (IsChangeOf k) (joined (messages_told spec start calls))) (sym parts)
        (changes_more before later (joined (messages_told spec start calls))
        (subst (λ k. EachTold (IsChangeOf k) (joined (messages_told spec start calls))) h.known_is
        (changes_of laws.streams spec start h.first calls h.gives h.on)));
  },
  (refl, refl, refl),
)

-- where there was no subscription
no_spec : SubSpec
no_spec = record { id = 0; interval = 0; keep_alive = 0; lifetime = 0; most = 0; enabled = false }

chains_in : Links → (id : ℕ) (life : Life) (known : List Change) (did : Did) → Steady life known → AreMessages id (messages_in life) did → TellsLife id life known did
chains_in laws id Unborn known did h are = (
  record {
    spec = no_spec;
    start = 0;
    calls = [];
    messages = are;
    told = tt;
    linked = λ item added is. tt;
    items = tt;
    changes = tt;
  },
  refl,
)
chains_in laws id (Lives spec start calls) known did h are = chains_by laws id spec start calls known known [] did (sym (append-nil known)) h are
chains_in laws id (Over spec start calls) known did h are = chains_by laws id spec start calls known h.before h.later did h.parts h.was are

-- for any course
pub chains_of : Links → Knows → (config : ServerConfig) (current : List Change) (happenings : List Happening) (id : ℕ)
    (course : IsCourse happenings (new_server config current)) → NeverOff happenings id
    → TellsLife id (life_after id course.moves (core_of (new_server config current)) Unborn) (current ++ fed_in happenings)
    (life_of happenings (new_server config current))
chains_of laws knows config current happenings id course never =
    let s : ServerState = new_server config current in
    let life : Life = life_after id course.moves (core_of s) Unborn in
    let known : known_all course.moves current ≡ current ++ fed_in happenings = known_more course.moves current ∙ ap (λ l. current ++ l) course.feeds in
    chains_in laws id life (current ++ fed_in happenings) (life_of happenings s)
    (subst (Steady life) known (steady_all happenings id course.moves Unborn (core_of s) current never course.asked course.fair (λ node. refl) tt))
    (are_messages knows id (life_of happenings s) (core_of s) course.moves course.fair refl course.leads course.told)
