-- Neighbours among the entries of a stream are linked.
use Rattle.std.proofs.Common.{◌≡◌, ℕ, ◌==◌, List, [], ◌∷◌, ◌++◌, Bool, true, false, cond, Option, Some, None, refl, sym, ap, ◌∙◌, subst, append_assoc}
use Rattle.std.proofs.lemmas.List.{append-nil}
use Rattle.set_model.specs.declared.source.Change.{Change}
use Rattle.set_model.specs.Source.{last_of, of_item}
use Rattle.subscription.specs.declared.spec.SubSpec.{SubSpec}
use Rattle.subscription.specs.State.{ItemState, SubState}
use Rattle.subscription.specs.Items.{is_disabled, item_of}
use Rattle.subscription.specs.Calls.{node_of}
use Rattle.subscription.specs.History.{AreAllowed, Call, IsAllowed, Feed, state_of}
use Rattle.subscription.specs.Linked.{AreLinked, last_change}
use Rattle.subscription.specs.Sources.{GiveLast, GivesLast, IsLastOf, known_after, known_with}
use Rattle.subscription.specs.Streams.{stream_of}
use Rattle.server_rules.specs.declared.config.ServerConfig.{ServerConfig}
use Rattle.server_rules.specs.State.{ServerState, new_server, sub_at}
use Rattle.server_rules.specs.Said.{Did}
use Rattle.server_rules.specs.Step.{Happening}
use Rattle.server_rules.specs.Acts.{state_after}
use Rattle.server_rules.specs.Items.{current_of}
use Rattle.server_laws.specs.Moves.{Adds, AreFair, Acknowledges, Core, Cycles, Doing, Enables, Goes, IsFair, IsFairly, Modes, Modifies, Move, Makes, Does, Enters, Ends, Asks, Issues, Removes, Repeats, Answers, Sends, call_of, feeds_in, moved}
use Rattle.server_laws.specs.Course.{core_of, fed_in, life_of}
use Rattle.server_laws.specs.Lives.{Life, Unborn, Lives, Over, Stands, born, ended, life_after, life_with, messages_in, with_call, with_doing}
use Rattle.server_laws.specs.Messages.{AreMessages}
use Rattle.server_laws.specs.Neighbours.{IsLinkedStream}
use Rattle.server_laws.proofs.Currents.{newest_both}
use Rattle.server_laws.proofs.Living.{course}
use Rattle.server_laws.proofs.Saying.{Knows, are_messages}
use Rattle.server_laws.proofs.Standing.{stands_all}

-- ---- what changes there were

abbrev pub known_by : Move → List Change → List Change
known_by (Enters change) known = known ++ change ∷ []
known_by other known = known

abbrev pub known_all : List Move → List Change → List Change
known_all [] known = known
known_all (move ∷ moves) known = known_all moves (known_by move known)

pub known_more : (moves : List Move) (known : List Change) → known_all moves known ≡ known ++ feeds_in moves
known_more [] known = sym (append-nil known)
known_more (Makes spec start ∷ moves) known = known_more moves known
known_more (Does id doing ∷ moves) known = known_more moves known
known_more (Enters change ∷ moves) known = known_more moves (known ++ change ∷ []) ∙ append_assoc known (change ∷ []) (feeds_in moves)
known_more (Ends id ∷ moves) known = known_more moves known
known_more (Asks call ∷ moves) known = known_more moves known
known_more (Issues ∷ moves) known = known_more moves known
known_more (Repeats id number ∷ moves) known = known_more moves known
known_more (Answers answer ∷ moves) known = known_more moves known

-- the current values are the last of them
abbrev pub AreNewest : Core → List Change → Type 0
AreNewest c known = (node : ℕ) → last_of node c.current ≡ last_of node known

newest_with : (move : Move) (c : Core) (known : List Change) → AreNewest c known → AreNewest (moved move c) (known_by move known)
newest_with (Makes spec start) c known h = h
newest_with (Does id doing) c known h = h
newest_with (Enters change) c known h = λ node. newest_both node change c.current known (h node)
newest_with (Ends id) c known h = h
newest_with (Asks call) c known h = h
newest_with Issues c known h = h
newest_with (Repeats id number) c known h = h
newest_with (Answers answer) c known h = h

-- ---- a life whose calls give each item its newest change

pub record IsFollowing (spec : SubSpec) (start : ℕ) (calls : List Call) (known : List Change) : Type 0 where
  pub first : List Change
  pub gives : GiveLast spec start first calls
  pub known_is : known_after first calls ≡ known
  pub allowed : AreAllowed calls

abbrev pub Follows : Life → List Change → Type 0
Follows Unborn known = Unit {0}
Follows (Lives spec start calls) known = IsFollowing spec start calls known
Follows (Over spec start calls) known = Unit {0}

record IsGiven (call : Call) (s : SubState) (known : List Change) : Type 0 where
  gives : GivesLast call s known
  same : known_with call known ≡ known
  allowed : IsAllowed call

node_given : (found : Option ItemState) (current known : List Change) → ((node : ℕ) → last_of node current ≡ last_of node known)
    → IsLastOf found (current_of (node_of found) current) known
node_given None current known h = tt
node_given (Some item) current known h = h item.node

given : (doing : Doing) (current known : List Change) (s : SubState) → IsFairly doing → ((node : ℕ) → last_of node current ≡ last_of node known)
    → IsGiven (call_of doing current (Some s)) s known
given (Adds spec) current known s fair h = record { gives = h spec.node; same = refl; allowed = fair }
given (Removes id) current known s fair h = record { gives = tt; same = refl; allowed = tt }
given (Modes id mode) current known s fair h = record { gives = node_given (item_of id s.items) current known h; same = refl; allowed = tt }
given (Cycles queued) current known s fair h = record { gives = tt; same = refl; allowed = tt }
given (Sends now) current known s fair h = record { gives = tt; same = refl; allowed = tt }
given (Acknowledges number) current known s fair h = record { gives = tt; same = refl; allowed = tt }
given (Modifies spec now) current known s fair h = record { gives = tt; same = refl; allowed = tt }
given (Enables enabled) current known s fair h = record { gives = tt; same = refl; allowed = tt }
given Goes current known s fair h = record { gives = tt; same = refl; allowed = tt }

follows_doing : (doing : Doing) (life : Life) (c : Core) (known : List Change) (b : Bool) → IsFairly doing → AreNewest c known → Follows life known
    → Follows (cond b (with_doing doing c.current life) life) known
follows_doing doing Unborn c known true fair newest h = tt
follows_doing doing (Lives spec start calls) c known true fair newest h =
    let s : SubState = state_of spec start calls in
    let one = given doing c.current (known_after h.first calls) s fair (λ node. newest node ∙ ap (last_of node) (sym h.known_is)) in
    record { first = h.first; gives = (one.gives, h.gives); known_is = one.same ∙ h.known_is; allowed = (one.allowed, h.allowed) }
follows_doing doing (Over spec start calls) c known true fair newest h = tt
follows_doing doing life c known false fair newest h = h

follows_fed : (change : Change) (life : Life) (known : List Change) → Follows life known → Follows (with_call (Feed change) life) (known ++ change ∷ [])
follows_fed change Unborn known h = tt
follows_fed change (Lives spec start calls) known h =
    record { first = h.first; gives = (tt, h.gives); known_is = ap (λ l. l ++ change ∷ []) h.known_is; allowed = (tt, h.allowed) }
follows_fed change (Over spec start calls) known h = tt

follows_made : (spec : SubSpec) (start : ℕ) (life : Life) (known : List Change) (b : Bool) → Follows life known → Follows (cond b (born spec start life) life) known
follows_made spec start Unborn known true h = record { first = known; gives = tt; known_is = refl; allowed = tt }
follows_made spec start (Lives old began calls) known true h = h
follows_made spec start (Over old began calls) known true h = tt
follows_made spec start life known false h = h

follows_ended : (life : Life) (known : List Change) (b : Bool) → Follows life known → Follows (cond b (ended life) life) known
follows_ended Unborn known true h = tt
follows_ended (Lives spec start calls) known true h = tt
follows_ended (Over spec start calls) known true h = tt
follows_ended life known false h = h

follows_with : (id : ℕ) (move : Move) (life : Life) (c : Core) (known : List Change) → IsFair move c → AreNewest c known → Follows life known
    → Follows (life_with id move c life) (known_by move known)
follows_with id (Makes spec start) life c known fair newest h = follows_made spec start life known (spec.id == id) h
follows_with id (Does other doing) life c known fair newest h = follows_doing doing life c known (other == id) fair newest h
follows_with id (Enters change) life c known fair newest h = follows_fed change life known h
follows_with id (Ends other) life c known fair newest h = follows_ended life known (other == id) h
follows_with id (Asks call) life c known fair newest h = h
follows_with id Issues life c known fair newest h = h
follows_with id (Repeats other number) life c known fair newest h = h
follows_with id (Answers answer) life c known fair newest h = h

pub follows_all : (id : ℕ) (moves : List Move) (life : Life) (c : Core) (known : List Change) → AreFair moves c → AreNewest c known → Follows life known
    → Follows (life_after id moves c life) (known_all moves known)
follows_all id [] life c known fair newest h = h
follows_all id (move ∷ moves) life c known fair newest h =
    follows_all id moves (life_with id move c life) (moved move c) (known_by move known) fair.1 (newest_with move c known newest)
    (follows_with id move life c known fair.0 newest h)

-- ---- linked

-- what the crate of the subscription says of neighbours
pub record Links : Type 0 where
  pub linked : (spec : SubSpec) (start : ℕ) (first : List Change) (calls : List Call) (id : ℕ) (item : ItemState) → AreAllowed calls
      → GiveLast spec start first calls → item_of id (state_of spec start calls).items ≡ Some item → is_disabled item.mode ≡ false
      → AreLinked item.queue.size (of_item item.node (known_after first calls)) ((stream_of spec start id calls).given ++ item.queue.entries)
  pub ends : (spec : SubSpec) (start : ℕ) (first : List Change) (calls : List Call) (id : ℕ) (item : ItemState) → AreAllowed calls
      → GiveLast spec start first calls → item_of id (state_of spec start calls).items ≡ Some item → is_disabled item.mode ≡ false
      → last_change ((stream_of spec start id calls).given ++ item.queue.entries) ≡ last_of item.node (known_after first calls)

linked_in : Links → (id : ℕ) (sub : SubState) (item_id : ℕ) (item : ItemState) (known : List Change) (did : Did) (life : Life)
    → Stands id life (core_of did.state) → Follows life known → AreMessages id (messages_in life) did → sub_at id did.state.subs ≡ Some sub
    → item_of item_id sub.items ≡ Some item → is_disabled item.mode ≡ false → IsLinkedStream id sub item_id item known did
linked_in law id sub item_id item known did Unborn stands h are found has samples =
    let both : ◌≡◌ {A = Option SubState} None (Some sub) = sym stands ∙ found in absurd cc
linked_in law id sub item_id item known did (Lives spec start calls) stands h are found has samples =
    let both : Some sub ≡ Some (state_of spec start calls) = sym found ∙ stands.0 in
    let is : sub ≡ state_of spec start calls = cc in
    let item_is : item_of item_id (state_of spec start calls).items ≡ Some item = sym (ap (λ (s : SubState). item_of item_id s.items) is) ∙ has in
    record {
      spec = spec;
      start = start;
      calls = calls;
      is = is;
      messages = are;
      linked = subst (λ k. AreLinked item.queue.size (of_item item.node k) ((stream_of spec start item_id calls).given ++ item.queue.entries)) h.known_is
          (law.linked spec start h.first calls item_id item h.allowed h.gives item_is samples);
      ends = law.ends spec start h.first calls item_id item h.allowed h.gives item_is samples ∙ ap (last_of item.node) h.known_is;
    }
linked_in law id sub item_id item known did (Over spec start calls) stands h are found has samples =
    let both : ◌≡◌ {A = Option SubState} None (Some sub) = sym stands.0 ∙ found in absurd cc

pub neighbours_of : Links → Knows → (config : ServerConfig) (current : List Change) (happenings : List Happening) (id : ℕ) (sub : SubState) (item_id : ℕ)
    (item : ItemState) → sub_at id (state_after happenings (new_server config current)).subs ≡ Some sub → item_of item_id sub.items ≡ Some item
    → is_disabled item.mode ≡ false
    → IsLinkedStream id sub item_id item (current ++ fed_in happenings) (life_of happenings (new_server config current))
neighbours_of links knows config current happenings id sub item_id item found has samples =
    let s : ServerState = new_server config current in
    let h = course happenings s in
    let life : Life = life_after id h.moves (core_of s) Unborn in
    let known : known_all h.moves current ≡ current ++ fed_in happenings = known_more h.moves current ∙ ap (λ l. current ++ l) h.feeds in
    linked_in links id sub item_id item (current ++ fed_in happenings) (life_of happenings s) life
    (subst (Stands id life) (sym h.leads) (stands_all id h.moves Unborn (core_of s) h.fair refl))
    (subst (Follows life) known (follows_all id h.moves Unborn (core_of s) current h.fair (λ node. refl) tt))
    (are_messages knows id (life_of happenings s) (core_of s) h.moves h.fair refl h.leads h.told)
    found has samples
