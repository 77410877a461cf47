-- All that messages told of an item is linked, where no Disabled was asked for.
use Rattle.std.proofs.Common.{◌≡◌, ℕ, ◌==◌, List, [], ◌∷◌, ◌++◌, Bool, true, false, cond, Option, Some, None, refl, sym, ap, ◌∙◌, subst, arith}
use Rattle.std.proofs.lemmas.Bool.Decides.{nat_tests}
use Rattle.item_queue.specs.declared.queue.Entry.{Entry}
use Rattle.set_model.specs.declared.source.Change.{Change}
use Rattle.set_model.specs.Source.{of_item}
use Rattle.subscription.specs.declared.spec.SubSpec.{SubSpec}
use Rattle.subscription.specs.State.{ItemState, SubState}
use Rattle.subscription.specs.Items.{is_disabled, item_of}
use Rattle.subscription.specs.History.{Feed, state_of}
use Rattle.subscription.specs.Linked.{AreLinked}
use Rattle.subscription.specs.Streams.{stream_of}
use Rattle.server_rules.specs.declared.config.ServerConfig.{ServerConfig}
use Rattle.server_rules.specs.State.{ServerState, new_server, sub_at}
use Rattle.server_rules.specs.Said.{Did}
use Rattle.server_rules.specs.Step.{Happening}
use Rattle.server_rules.specs.Acts.{state_after}
use Rattle.server_laws.specs.Moves.{Acknowledges, Adds, Answers, Asks, Core, Cycles, Does, Doing, Enables, Ends, Enters, Goes, Issues, Makes, Modes, Modifies, Move, Removes, Repeats, Sends, call_of, moved}
use Rattle.server_laws.specs.Course.{AreAsked, IsAskedDoing, IsAskedMove, core_of, fed_in, life_of}
use Rattle.server_laws.specs.Lives.{Life, Lives, Over, Stands, Unborn, born, ended, life_after, life_with, messages_in, with_call, with_doing}
use Rattle.server_laws.specs.Messages.{AreMessages}
use Rattle.server_laws.specs.Whole.{IsLinkedChain, NeverOff}
use Rattle.server_laws.proofs.Living.{course}
use Rattle.server_laws.proofs.Neighbours.{Follows, Links, follows_all, known_all, known_more}
use Rattle.server_laws.proofs.Saying.{Knows, are_messages}
use Rattle.server_laws.proofs.Standing.{stands_all}
use Rattle.server_laws.proofs.Whole.{AreOn, IdsRise, IsOn, whole}

-- ---- a life in which no Disabled was set

abbrev pub AreOnIn : Life → Type 0
AreOnIn Unborn = Unit {0}
AreOnIn (Lives spec start calls) = AreOn calls
AreOnIn (Over spec start calls) = Unit {0}

on_doing : (happenings : List Happening) (id : ℕ) (doing : Doing) (current : List Change) (found : Option SubState) → NeverOff happenings id
    → IsAskedDoing happenings id doing → IsOn (call_of doing current found)
on_doing happenings id (Modes item mode) current found never asked = never mode asked
on_doing happenings id (Adds spec) current found never asked = tt
on_doing happenings id (Removes item) current found never asked = tt
on_doing happenings id (Cycles queued) current found never asked = tt
on_doing happenings id (Sends now) current found never asked = tt
on_doing happenings id (Acknowledges number) current found never asked = tt
on_doing happenings id (Modifies spec now) current found never asked = tt
on_doing happenings id (Enables enabled) current found never asked = tt
on_doing happenings id Goes current found never asked = tt

on_done : (happenings : List Happening) (id other : ℕ) (doing : Doing) (current : List Change) (life : Life) (b : Bool) → (other == id) ≡ b → NeverOff happenings id
    → IsAskedDoing happenings other doing → AreOnIn life → AreOnIn (cond b (with_doing doing current life) life)
on_done happenings id other doing current Unborn true test never asked h = tt
on_done happenings id other doing current (Lives spec start calls) true test never asked h =
    let same : other ≡ id = grind (arith, nat_tests) in
    (on_doing happenings id doing current (Some (state_of spec start calls)) never (subst (λ n. IsAskedDoing happenings n doing) same asked), h)
on_done happenings id other doing current (Over spec start calls) true test never asked h = tt
on_done happenings id other doing current life false test never asked h = h

on_fed : (change : Change) (life : Life) → AreOnIn life → AreOnIn (with_call (Feed change) life)
on_fed change Unborn h = tt
on_fed change (Lives spec start calls) h = (tt, h)
on_fed change (Over spec start calls) h = tt

on_born : (spec : SubSpec) (start : ℕ) (life : Life) (b : Bool) → AreOnIn life → AreOnIn (cond b (born spec start life) life)
on_born spec start Unborn true h = tt
on_born spec start (Lives old began calls) true h = h
on_born spec start (Over old began calls) true h = tt
on_born spec start life false h = h

on_ended : (life : Life) (b : Bool) → AreOnIn life → AreOnIn (cond b (ended life) life)
on_ended Unborn true h = tt
on_ended (Lives spec start calls) true h = tt
on_ended (Over spec start calls) true h = tt
on_ended life false h = h

on_with : (happenings : List Happening) (id : ℕ) (move : Move) (life : Life) (c : Core) → NeverOff happenings id → IsAskedMove happenings move → AreOnIn life
    → AreOnIn (life_with id move c life)
on_with happenings id (Makes spec start) life c never asked h = on_born spec start life (spec.id == id) h
on_with happenings id (Does other doing) life c never asked h = on_done happenings id other doing c.current life (other == id) refl never asked h
on_with happenings id (Enters change) life c never asked h = on_fed change life h
on_with happenings id (Ends other) life c never asked h = on_ended life (other == id) h
on_with happenings id (Asks call) life c never asked h = h
on_with happenings id Issues life c never asked h = h
on_with happenings id (Repeats other number) life c never asked h = h
on_with happenings id (Answers answer) life c never asked h = h

on_all : (happenings : List Happening) (id : ℕ) (moves : List Move) (life : Life) (c : Core) → NeverOff happenings id → AreAsked happenings moves → AreOnIn life
    → AreOnIn (life_after id moves c life)
on_all happenings id [] life c never asked h = h
on_all happenings id (move ∷ moves) life c never asked h =
    on_all happenings id moves (life_with id move c life) (moved move c) never asked.1 (on_with happenings id move life c never asked.0 h)

-- ---- linked

chain_in : Links → IdsRise → (id : ℕ) (sub : SubState) (item_id : ℕ) (item : ItemState) (known : List Change) (did : Did) (life : Life)
    → Stands id life (core_of did.state) → Follows life known → AreOnIn life → AreMessages id (messages_in life) did → sub_at id did.state.subs ≡ Some sub
    → item_of item_id sub.items ≡ Some item → is_disabled item.mode ≡ false → IsLinkedChain id sub item_id item known did
chain_in law rise id sub item_id item known did Unborn stands h on are found has samples =
    let both : ◌≡◌ {A = Option SubState} None (Some sub) = sym stands ∙ found in absurd cc
chain_in law rise id sub item_id item known did (Lives spec start calls) stands h on are found has samples =
    let both : Some sub ≡ Some (state_of spec start calls) = sym found ∙ stands.0 in
    let is : sub ≡ state_of spec start calls = cc in
    let item_is : item_of item_id (state_of spec start calls).items ≡ Some item = sym (ap (λ (s : SubState). item_of item_id s.items) is) ∙ has in
    let same = (whole rise spec start item_id calls on).same item item_is in
    record {
      spec = spec;
      start = start;
      calls = calls;
      is = is;
      messages = are;
      linked = subst (λ (given : List Entry). AreLinked item.queue.size (of_item item.node known) (given ++ item.queue.entries)) same
          (subst (λ k. AreLinked item.queue.size (of_item item.node k) ((stream_of spec start item_id calls).given ++ item.queue.entries)) h.known_is
          (law.linked spec start h.first calls item_id item h.allowed h.gives item_is samples));
    }
chain_in law rise id sub item_id item known did (Over spec start calls) stands h on are found has samples =
    let both : ◌≡◌ {A = Option SubState} None (Some sub) = sym stands.0 ∙ found in absurd cc

pub chain_of : Links → IdsRise → Knows → (config : ServerConfig) (current : List Change) (happenings : List Happening) (id : ℕ) (sub : SubState) (item_id : ℕ)
    (item : ItemState) → NeverOff happenings id → sub_at id (state_after happenings (new_server config current)).subs ≡ Some sub
    → item_of item_id sub.items ≡ Some item → is_disabled item.mode ≡ false
    → IsLinkedChain id sub item_id item (current ++ fed_in happenings) (life_of happenings (new_server config current))
chain_of links rise knows config current happenings id sub item_id item never found has samples =
    let s : ServerState = new_server config current in
    let h = course happenings s in
    let life : Life = life_after id h.moves (core_of s) Unborn in
    let known : known_all h.moves current ≡ current ++ fed_in happenings = known_more h.moves current ∙ ap (λ l. current ++ l) h.feeds in
    chain_in links rise id sub item_id item (current ++ fed_in happenings) (life_of happenings s) life
    (subst (Stands id life) (sym h.leads) (stands_all id h.moves Unborn (core_of s) h.fair refl))
    (subst (Follows life) known (follows_all id h.moves Unborn (core_of s) current h.fair (λ node. refl) tt))
    (on_all happenings id h.moves Unborn (core_of s) never h.asked tt)
    (are_messages knows id (life_of happenings s) (core_of s) h.moves h.fair refl h.leads h.told)
    found has samples
