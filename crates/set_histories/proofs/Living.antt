-- Each life of a server is what happened to it, and its connections are told.
use Rattle.std.proofs.Common.{◌≡◌, ℕ, suc, ◌+◌, ◌-◌, ◌^◌, ◌==◌, ◌<◌, Bool, true, false, cond, List, [], ◌∷◌, length, Option, Some, None, is_some, refl, sym, ap, subst, ◌∙◌, arith}
use Rattle.std.proofs.lemmas.Bool.Decides.{nat_tests}
use Rattle.ua_base.specs.declared.modes.SetMode.{SetMode}
use Rattle.set_model.specs.declared.source.Change.{Change}
use Rattle.ua_channel.specs.State.{WireState, is_deaf}
use Rattle.message_ends.specs.Ends.{MessageEnd}
use Rattle.message_ends.specs.Talk as talks
use Rattle.server_rules.specs.State.{ServerState, new_server}
use Rattle.server_rules.specs.Acts.{state_after}
use Rattle.server_rules.specs.Step.{Closes, Feeds, Happening, Hears, Levels, Opens, Ticks, after, ears}
use Rattle.server_rules.specs.Connecting.{is_above}
use Rattle.ua_channel.specs.Messages.{hearing_of}
use Rattle.server_laws.specs.Lockstep as lockstep
use Rattle.server_laws.specs.Lockstep.{IsQuiet, MayHear, Other}
use Rattle.server_messages.specs.Messages as serving
use Rattle.ua_channel.specs.Sharing.{own}
use Rattle.server_rules.specs.Said.{orders_of}
use Rattle.server_rules.specs.declared.config.ServerConfig.{ServerConfig}
use Rattle.set_fronts.specs.Below.{server_config, Server, beginning}
use Rattle.set_fronts.specs.Noting.{Accepted, NotedLife, changed_if, noted_life, noting, on_newest, puts, takes, Talked}
use Rattle.set_histories.specs.Recording.{RecordedLife, closes_in, heard_here, heard_in, recorded_life, recording}
use Rattle.set_histories.specs.Histories.{AllLived, AllTold, IsLived, IsTold}
use Rattle.set_talks.specs.Lives.{put_on}
use Rattle.set_histories.proofs.Ends.{has_heard, obeyed_outs, outs}
use Rattle.set_histories.proofs.Serving.{AllToldIn, Goes, IsQuietly, Rests, Stands, begins_one, empties, ends_one, hears_all, put_front, rests_more, stands_more}
use Rattle.set_histories.proofs.Walking.{AllOver, AreKept, next_given}

abbrev Life : Type 0
Life = NotedLife RecordedLife WireState

number_same : (n k : ℕ) → n ≡ k → (n == k) ≡ true
number_same n k same = grind (arith, nat_tests)

next_is : (given : ℕ) → given + 1 < 2 ^ 32 - 1 → next_given given ≡ given + 1
next_is given less = omega (arith, less)

module _ (still : (conn : ℕ) (happening : Happening) (s : ServerState) → MayHear (Other conn) happening → IsQuiet conn s
    → lockstep.IsTold (Other conn) (after happening s))
    (begins_quiet : (conn : ℕ) (config : ServerConfig) (current : List Change) → IsQuiet conn (new_server config current))
    (mode : SetMode) (servers items : ℕ) where
  abbrev pub first_of : ℕ → Life → ServerState
  first_of place life = new_server (server_config mode servers items (place + 1) life.boot) life.current

  -- ---- what is told of its connections

  abbrev pub Tells : Option ℕ → ℕ → ServerState → RecordedLife → List (Accepted WireState) → Type 0
  Tells None given first past connections = (given ≡ length connections) × Rests still first given past.talk past.happenings connections
  Tells (Some number) given first past [] = ⊥
  Tells (Some number) given first past (a ∷ earlier) =
      (given ≡ length (a ∷ earlier)) × (a.number ≡ number) × (given ≡ number) × Stands still first number past.talk past.happenings a.talked earlier

  pub record IsKept (place given : ℕ) (life : Life) (number : Option ℕ) : Type 0 where
    pub state : life.node.talk.hub ≡ state_after life.node.happenings (first_of place life)
    pub told : length life.connections < 2 ^ 32 - 1 → Tells number given (first_of place life) life.node life.connections

  -- ---- events of which nothing is heard

  goes_on : (o : Option ℕ) (h : Happening) (given : ℕ) (first : ServerState) (past : RecordedLife) (u : Server) (connections : List (Accepted WireState)) → IsQuietly still first h
      → Goes still first h (λ k. outs (past.talk.ends k)) past.talk u → Tells o given first past connections
      → Tells o given first (record { talk = u; happenings = h ∷ past.happenings }) connections
  goes_on None h given first past u connections is goes x = (x.0, rests_more still first given h past.talk u past.happenings connections is goes x.1)
  goes_on (Some number) h given first past u [] is goes x = absurd x
  goes_on (Some number) h given first past u (a ∷ earlier) is goes x =
      (x.0, x.1, x.2, stands_more still first number h past.talk u past.happenings a.talked earlier is goes x.3)

  state_then : (h : Happening) (past : List Happening) (s first : ServerState) → s ≡ state_after past first → (after h s).state ≡ state_after (h ∷ past) first
  unfolding state_after
  state_then h past s first is = ap (λ (u : ServerState). (after h u).state) is

  -- the same event of a life, with its orders obeyed
  happens : (place given : ℕ) (o : Option ℕ) (h : Happening) (life : Life)
      → ((first : ServerState) → IsQuietly still first h) → IsKept place given life o
      → IsKept place given (record life { node = record { talk = serving.with_ends life.node.talk.ends (after h life.node.talk.hub); happenings = h ∷ life.node.happenings } }) o
  happens place given o h life is x = record {
    state = state_then h life.node.happenings life.node.talk.hub (first_of place life) x.state;
    told = λ few. goes_on o h given (first_of place life) life.node (serving.with_ends life.node.talk.ends (after h life.node.talk.hub)) life.connections (is (first_of place life))
        (record { hub = refl; outs = λ k. obeyed_outs (own k (orders_of (after h life.node.talk.hub).said)) (life.node.talk.ends k) }) (x.told few);
  }

  -- ---- notes on the newest

  noted_here : (number : ℕ) (change : Talked WireState → Talked WireState) (a : Accepted WireState) → a.number ≡ number → changed_if number change a ≡ record a { talked = change a.talked }
  noted_here number change a same = ap (λ b. cond b (record a { talked = change a.talked }) a) (number_same a.number number same)

  newest_long : (number : ℕ) (change : Talked WireState → Talked WireState) (connections : List (Accepted WireState)) → length (on_newest number change connections) ≡ length connections
  newest_long number change [] = refl
  newest_long number change (a ∷ earlier) = refl

  -- an event of the connection that stands
  on_it : (number given : ℕ) (first : ServerState) (past later : RecordedLife) (change : Talked WireState → Talked WireState) (connections : List (Accepted WireState))
      → ((talked : Talked WireState) (earlier : List (Accepted WireState)) → Stands still first number past.talk past.happenings talked earlier
      → Stands still first number later.talk later.happenings (change talked) earlier)
      → Tells (Some number) given first past connections → Tells (Some number) given first later (on_newest number change connections)
  on_it number given first past later change [] step x = absurd x
  on_it number given first past later change (a ∷ earlier) step x =
      subst (λ (c : Accepted WireState). Tells (Some number) given first later (c ∷ earlier)) (sym (noted_here number change a x.1))
      (x.0, x.1, x.2, step a.talked earlier x.3)

  -- ---- connections begin and end

  begins_told : (given : ℕ) (first : ServerState) (past : RecordedLife) (connections : List (Accepted WireState)) → length connections + 1 < 2 ^ 32 - 1
      → Tells None given first past connections
      → Tells (Some (next_given given)) (next_given given) first (recording.accepts (next_given given) past) (record { number = next_given given; talked = record { taken = []; put = [] } } ∷ connections)
  begins_told given first past connections few x =
      let counted : given ≡ length connections = x.0 in
      let less : given + 1 < 2 ^ 32 - 1 = omega (arith, counted, few) in
      let next : next_given given ≡ given + 1 = next_is given less in (
        next ∙ ap (λ n. n + 1) counted ∙ long_next connections,
        refl,
        refl,
        begins_one still first (next_given given) given past.talk past.happenings connections next x.1,
      )
    where
      long_next : (connections : List (Accepted WireState)) → length connections + 1 ≡ suc (length connections)
      long_next connections = omega arith

  ends_told : (number given : ℕ) (first : ServerState) (past : RecordedLife) (connections : List (Accepted WireState)) → Tells (Some number) given first past connections
      → Tells None given first (recording.ends number past) connections
  ends_told number given first past [] x = absurd x
  ends_told number given first past (a ∷ earlier) x = (
    x.0,
    subst (λ n. Rests still first n (serving.closed number past.talk) (closes_in number past.talk past.happenings) (a ∷ earlier)) (sym x.2)
        (subst (λ n. Rests still first number (serving.closed number past.talk) (closes_in number past.talk past.happenings)
        (record { number = n; talked = a.talked } ∷ earlier)) (sym x.1)
        (ends_one still first number past.talk past.happenings a.talked earlier x.3)),
  )

  -- ---- states

  opens_state : (number : ℕ) (past : RecordedLife) (first : ServerState) → past.talk.hub ≡ state_after past.happenings first
      → (recording.accepts number past).talk.hub ≡ state_after (recording.accepts number past).happenings first
  opens_state number past first is = opened_by (is_above past.talk.hub.highest number)
    where
      opened_by : (b : Bool) → (cond b (serving.with_ends (serving.end_opened number past.talk.ends) (after (Opens number) past.talk.hub)) past.talk).hub
          ≡ state_after (cond b (Opens number ∷ past.happenings) past.happenings) first
      opened_by true = state_then (Opens number) past.happenings past.talk.hub first is
      opened_by false = is

  ends_state : (number : ℕ) (past : RecordedLife) (first : ServerState) → past.talk.hub ≡ state_after past.happenings first
      → (recording.ends number past).talk.hub ≡ state_after (recording.ends number past).happenings first
  ends_state number past first is = closed_by (is_some (past.talk.ends number))
    where
      closed_by : (b : Bool) → (cond b (serving.with_ends (serving.end_closed number past.talk.ends) (after (Closes number) past.talk.hub)) past.talk).hub
          ≡ state_after (cond b (Closes number ∷ past.happenings) past.happenings) first
      closed_by true = state_then (Closes number) past.happenings past.talk.hub first is
      closed_by false = is

  hears_if : (b : Bool) (number : ℕ) (wire : WireState) (e : MessageEnd) (t : Server) (past : List Happening) (first : ServerState) → t.ends number ≡ Some e → t.hub ≡ state_after past first
      → (cond b t (talks.judged ears serving.answers number (hearing_of (ears number t.hub) wire e.tokens) e t)).hub
      ≡ state_after (cond b past (Hears number (hearing_of (ears number t.hub) wire e.tokens).heard ∷ past)) first
  hears_if true number wire e t past first there is = is
  hears_if false number wire e t past first there is =
      (has_heard ears serving.answers number wire e t there).hub ∙ state_then (Hears number (hearing_of (ears number t.hub) wire e.tokens).heard) past t.hub first is

  hears_by : (found : Option MessageEnd) (number : ℕ) (wire : WireState) (t : Server) (past : List Happening) (first : ServerState) → t.ends number ≡ found → t.hub ≡ state_after past first
      → (talks.heard_by ears serving.answers found number wire t).hub ≡ state_after (heard_here found number wire t past) first
  hears_by None number wire t past first there is = is
  hears_by (Some e) number wire t past first there is = hears_if (is_deaf (ears number t.hub)) number wire e t past first there is

  hears_one : (number : ℕ) (wire : WireState) (t : Server) (past : List Happening) (first : ServerState) → t.hub ≡ state_after past first
      → (talks.heard_one ears serving.answers number wire t).hub ≡ state_after (heard_here (t.ends number) number wire t past) first
  unfolding talks.heard_one
  hears_one number wire t past first is = hears_by (t.ends number) number wire t past first refl is

  heard_state : (number : ℕ) (wires : List WireState) (t : Server) (past : List Happening) (first : ServerState) → t.hub ≡ state_after past first
      → (talks.heard_all ears serving.answers number wires t).hub ≡ state_after (heard_in number wires t past) first
  heard_state number [] t past first is = is
  heard_state number (wire ∷ wires) t past first is =
      heard_state number wires (talks.heard_one ears serving.answers number wire t) (heard_here (t.ends number) number wire t past) first (hears_one number wire t past first is)

  -- ---- each event

  with_wires : (number given place : ℕ) (wires : List WireState) (life : Life) → IsKept place given life (Some number) → IsKept place given ((noting recording).hears number wires life) (Some number)
  with_wires number given place wires life x = record {
    state = heard_state number wires life.node.talk life.node.happenings (first_of place life) x.state;
    told = λ few. on_it number given (first_of place life) life.node (recording.hears number wires life.node) (takes wires) life.connections
        (λ talked earlier y. hears_all still (first_of place life) number wires life.node.talk life.node.happenings talked earlier y)
        (x.told (subst (λ n. n < 2 ^ 32 - 1) (newest_long number (takes wires) life.connections) few));
  }

  empties_it : (number given place : ℕ) (life : Life) → IsKept place given life (Some number) → IsKept place given ((noting recording).emptied number life) (Some number)
  empties_it number given place life x = record {
    state = x.state;
    told = λ few. on_it number given (first_of place life) life.node (recording.emptied number life.node) (puts (recording.answered number life.node)) life.connections
        (λ talked earlier y. empties still (first_of place life) number life.node.talk life.node.happenings talked earlier y)
        (x.told (subst (λ n. n < 2 ^ 32 - 1) (newest_long number (puts (recording.answered number life.node)) life.connections) few));
  }

  accepts_it : (given place : ℕ) (life : Life) → IsKept place given life None
      → IsKept place (next_given given) ((noting recording).accepts (next_given given) life) (Some (next_given given))
  accepts_it given place life x = record {
    state = opens_state (next_given given) life.node (first_of place life) x.state;
    told = λ few. begins_told given (first_of place life) life.node life.connections (more_few life.connections few) (x.told (fewer life.connections few));
  }
    where
      more_few : (connections : List (Accepted WireState)) → suc (length connections) < 2 ^ 32 - 1 → length connections + 1 < 2 ^ 32 - 1
      more_few connections few = omega (arith, few)

      fewer : (connections : List (Accepted WireState)) → suc (length connections) < 2 ^ 32 - 1 → length connections < 2 ^ 32 - 1
      fewer connections few = omega (arith, few)

  ends_it : (number given place : ℕ) (life : Life) → IsKept place given life (Some number) → IsKept place given ((noting recording).ends number life) None
  ends_it number given place life x = record {
    state = ends_state number life.node (first_of place life) x.state;
    told = λ few. ends_told number given (first_of place life) life.node life.connections (x.told few);
  }

  at_first : (s : ServerState) → s ≡ state_after [] s
  unfolding state_after
  at_first s = refl

  starts_it : (place boot : ℕ) (current : List Change) → IsKept place 0 (noted_life (recorded_life (beginning mode servers items)) (place + 1) boot current) None
  starts_it place boot current = record {
    state = at_first (new_server (server_config mode servers items (place + 1) boot) current);
    told = λ few. (
      refl,
      record {
        state = at_first (new_server (server_config mode servers items (place + 1) boot) current);
        none = λ k. refl;
        fresh = λ k above. record { heard = refl; put = refl; quiet = begins_quiet k (server_config mode servers items (place + 1) boot) current };
        told = tt;
        below = tt;
      },
    );
  }

  feeds_quietly : (change : Change) (first : ServerState) → IsQuietly still first (Feeds change)
  feeds_quietly change first = record { heard = λ k. refl; may = λ k. tt; opens = λ k. tt }

  ticks_quietly : (ms : ℕ) (first : ServerState) → IsQuietly still first (Ticks ms)
  ticks_quietly ms first = record { heard = λ k. refl; may = λ k. tt; opens = λ k. tt }

  levels_quietly : (level : ℕ) (first : ServerState) → IsQuietly still first (Levels level)
  levels_quietly level first = record { heard = λ k. refl; may = λ k. tt; opens = λ k. tt }

  pub lives_are_kept : (count : ℕ) → AreKept (noting recording) (noted_life (recorded_life (beginning mode servers items))) (λ place given life o. IsKept place given life o) count
  lives_are_kept count = record {
    begun = λ place boot current within. starts_it place boot current;
    accepts = λ place given life x. accepts_it given place life x;
    ends = λ place given number life x. ends_it number given place life x;
    hears = λ place given number wires life x. with_wires number given place wires life x;
    feeds = λ place given o change life x. happens place given o (Feeds change) life (feeds_quietly change) x;
    ticks = λ place given o ms life x. happens place given o (Ticks ms) life (ticks_quietly ms) x;
    levels = λ place given o level life x. happens place given o (Levels level) life (levels_quietly level) x;
    emptied = λ place given number life x. empties_it number given place life x;
  }

  -- ---- what is told of a life

  over_told : (first : ServerState) (past : RecordedLife) (connections : List (Accepted WireState)) → AllToldIn still first past.happenings connections → AllTold past first connections
  over_told first past [] x = tt
  over_told first past (a ∷ earlier) x = (record { heard = x.0.heard; put = x.0.put }, over_told first past earlier x.1)

  all_told : (o : Option ℕ) (given : ℕ) (first : ServerState) (past : RecordedLife) (connections : List (Accepted WireState)) → Tells o given first past connections
      → AllTold past first connections
  all_told None given first past connections x = over_told first past connections x.1.told
  all_told (Some number) given first past [] x = absurd x
  all_told (Some number) given first past (a ∷ earlier) x = (
    subst (λ (c : Accepted WireState). IsTold past first c) (own a x.1) (record {
      heard = x.3.heard;
      put = put_front (outs (past.talk.ends number)) a.talked.put (put_on number past.happenings first) x.3.put;
    }),
    over_told first past earlier x.3.told,
  )
    where
      own : (a : Accepted WireState) → a.number ≡ number → ◌≡◌ {A = Accepted WireState} (record { number = number; talked = a.talked }) a
      own a same = ap (λ n. record { number = n; talked = a.talked }) (sym same)

  pub is_lived : (place given : ℕ) (o : Option ℕ) (life : Life) → IsKept place given life o → IsLived mode servers items (place + 1) life
  is_lived place given o life x = record { state = x.state; told = λ few. all_told o given (first_of place life) life.node life.connections (x.told few) }

  pub lived : (place : ℕ) (lives : List Life)
      → AllOver (noting recording) (noted_life (recorded_life (beginning mode servers items))) (λ place given life o. IsKept place given life o) servers (lives_are_kept servers)
      (λ place life. IsLived mode servers items (place + 1) life) is_lived place lives
      → AllLived mode servers items (place + 1) lives
  lived place [] x = tt
  lived place (life ∷ earlier) x = (x.0, lived place earlier x.1)
