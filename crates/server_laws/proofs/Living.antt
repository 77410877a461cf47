-- A life, in moves.
use Rattle.std.proofs.Common.{◌≡◌, ℕ, List, [], ◌∷◌, ◌++◌, map, refl, sym, ap, ◌∙◌, subst, append_assoc, inl, inr}
use Rattle.std.specs.Prelude.{reverse}
use Rattle.std.proofs.lemmas.List.{append-nil, reverse-append, reverse-reverse}
use Rattle.ua_base.specs.declared.modes.Mode.{Mode}
use Rattle.set_model.specs.declared.source.Change.{Change}
use Rattle.server_rules.specs.declared.config.ServerConfig.{ServerConfig}
use Rattle.server_rules.specs.State.{ServerState, new_server}
use Rattle.server_rules.specs.Said.{Said}
use Rattle.server_rules.specs.Step.{Happening, Opens, Hears, Closes, Feeds, Ticks, Levels, after, fed}
use Rattle.server_rules.specs.Acts.{Put, ServerAct, acts, first_act, history, state_after}
use Rattle.server_laws.specs.Moves.{Acknowledges, Adds, Answers, AreFair, Asks, Core, Cycles, Does, Doing, Enables, Ends, Enters, Goes, Issues, Makes, Modes, Modifies, Move, Removes, Repeats, Sends, facts_of_all, feeds_in, moved_all}
use Rattle.server_laws.specs.Facts.{IsWithin, facts_said}
use Rattle.server_laws.specs.Course.{Adding, AreAsked, Feeding, IsAsked, IsAskedDoing, IsAskedMove, IsCourse, Issuing, Leave, MayDo, MayMove, MayMoves, MaySet, Nothing, Reading, Repeating, Setting, Transferring, core_of, fed_in, fed_with_one, leave_of, said_after, said_by, said_in}
use Rattle.server_laws.specs.Lives.{Stands, Unborn, life_after}
use Rattle.server_laws.proofs.Coming.{facts_join, fair_join, moved_join, said_join}
use Rattle.server_laws.proofs.Feeding.{FeedsNone, feeds_join, feeds_none, heard_none}
use Rattle.server_laws.proofs.Hearing.{after_comes}
use Rattle.server_laws.proofs.Standing.{stands_all}
use Rattle.server_laws.proofs.Within.{within_join}

pub state_is : (happening : Happening) (earlier : List Happening) (s : ServerState)
    → state_after (happening ∷ earlier) s ≡ (after happening (state_after earlier s)).state
unfolding state_after
state_is happening earlier s = refl

-- what happened last
record IsStep (happening : Happening) (s : ServerState) : Type 0 where
  moves : List Move
  fair : AreFair moves (core_of s)
  leads : core_of (after happening s).state ≡ moved_all moves (core_of s)
  told : IsWithin (facts_said (after happening s).said) (facts_of_all moves (core_of s))
  feeds : feeds_in moves ≡ fed_with_one [] happening
  asked : (earlier : List Happening) → AreAsked (happening ∷ earlier) moves

-- ---- modes that are asked for

set_asked : (happening : Happening) (earlier : List Happening) (leave : Leave) (id : ℕ) (mode : Mode) → leave_of happening ≡ leave → MaySet leave id mode
    → IsAsked (happening ∷ earlier) id mode
set_asked happening earlier (Setting other that) id mode is may = inl (is ∙ ap (λ n. Setting n that) may.0 ∙ ap (Setting id) may.1)
set_asked happening earlier Nothing id mode is may = absurd may
set_asked happening earlier (Adding other) id mode is may = absurd may
set_asked happening earlier (Transferring ids) id mode is may = absurd may
set_asked happening earlier Reading id mode is may = absurd may
set_asked happening earlier (Repeating other number) id mode is may = absurd may
set_asked happening earlier Issuing id mode is may = absurd may
set_asked happening earlier (Feeding change) id mode is may = absurd may

doing_asked : (happening : Happening) (earlier : List Happening) (leave : Leave) (id : ℕ) (doing : Doing) → leave_of happening ≡ leave → MayDo leave id doing
    → IsAskedDoing (happening ∷ earlier) id doing
doing_asked happening earlier leave id (Modes item mode) is may = set_asked happening earlier leave id mode is may
doing_asked happening earlier leave id (Adds spec) is may = tt
doing_asked happening earlier leave id (Removes item) is may = tt
doing_asked happening earlier leave id (Cycles queued) is may = tt
doing_asked happening earlier leave id (Sends now) is may = tt
doing_asked happening earlier leave id (Acknowledges number) is may = tt
doing_asked happening earlier leave id (Modifies spec now) is may = tt
doing_asked happening earlier leave id (Enables enabled) is may = tt
doing_asked happening earlier leave id Goes is may = tt

move_asked : (happening : Happening) (earlier : List Happening) (leave : Leave) (move : Move) → leave_of happening ≡ leave → MayMove leave move
    → IsAskedMove (happening ∷ earlier) move
move_asked happening earlier leave (Does id doing) is may = doing_asked happening earlier leave id doing is may
move_asked happening earlier leave (Makes spec start) is may = tt
move_asked happening earlier leave (Enters change) is may = tt
move_asked happening earlier leave (Ends id) is may = tt
move_asked happening earlier leave (Asks call) is may = tt
move_asked happening earlier leave Issues is may = tt
move_asked happening earlier leave (Repeats id number) is may = tt
move_asked happening earlier leave (Answers answer) is may = tt

pub may_asked : (happening : Happening) (earlier : List Happening) (leave : Leave) (moves : List Move) → leave_of happening ≡ leave → MayMoves leave moves
    → AreAsked (happening ∷ earlier) moves
may_asked happening earlier leave [] is may = tt
may_asked happening earlier leave (move ∷ moves) is may = (move_asked happening earlier leave move is may.0, may_asked happening earlier leave moves is may.1)

later_doing : (happening : Happening) (earlier : List Happening) (id : ℕ) (doing : Doing) → IsAskedDoing earlier id doing → IsAskedDoing (happening ∷ earlier) id doing
later_doing happening earlier id (Modes item mode) h = inr h
later_doing happening earlier id (Adds spec) h = tt
later_doing happening earlier id (Removes item) h = tt
later_doing happening earlier id (Cycles queued) h = tt
later_doing happening earlier id (Sends now) h = tt
later_doing happening earlier id (Acknowledges number) h = tt
later_doing happening earlier id (Modifies spec now) h = tt
later_doing happening earlier id (Enables enabled) h = tt
later_doing happening earlier id Goes h = tt

later_move : (happening : Happening) (earlier : List Happening) (move : Move) → IsAskedMove earlier move → IsAskedMove (happening ∷ earlier) move
later_move happening earlier (Does id doing) h = later_doing happening earlier id doing h
later_move happening earlier (Makes spec start) h = tt
later_move happening earlier (Enters change) h = tt
later_move happening earlier (Ends id) h = tt
later_move happening earlier (Asks call) h = tt
later_move happening earlier Issues h = tt
later_move happening earlier (Repeats id number) h = tt
later_move happening earlier (Answers answer) h = tt

pub asked_later : (happening : Happening) (earlier : List Happening) (moves : List Move) → AreAsked earlier moves → AreAsked (happening ∷ earlier) moves
asked_later happening earlier [] h = tt
asked_later happening earlier (move ∷ moves) h = (later_move happening earlier move h.0, asked_later happening earlier moves h.1)

pub asked_join : (happenings : List Happening) (one other : List Move) → AreAsked happenings one → AreAsked happenings other → AreAsked happenings (one ++ other)
asked_join happenings [] other h rest = rest
asked_join happenings (move ∷ one) other h rest = (h.0, asked_join happenings one other h.1 rest)

-- ---- steps

unfed : (happening : Happening) (s : ServerState) → FeedsNone (leave_of happening) → fed_with_one [] happening ≡ [] → IsStep happening s
unfed happening s none is =
    let h = after_comes happening s in
    record { moves = h.moves; fair = h.fair; leads = h.leads; told = h.told; feeds = feeds_none (leave_of happening) none h.moves h.may ∙ sym is; asked = λ earlier. may_asked happening earlier (leave_of happening) h.moves refl h.may }

fed_step : (change : Change) (s : ServerState) → IsStep (Feeds change) s
unfolding fed
fed_step change s = record { moves = Enters change ∷ []; fair = (tt, tt); leads = refl; told = refl; feeds = refl; asked = λ earlier. (tt, tt) }

step : (happening : Happening) (s : ServerState) → IsStep happening s
step (Opens number) s = unfed (Opens number) s (λ change h. h) refl
step (Hears number h) s = unfed (Hears number h) s (heard_none h) refl
step (Closes number) s = unfed (Closes number) s (λ change h. h) refl
step (Feeds change) s = fed_step change s
step (Ticks ms) s = unfed (Ticks ms) s (λ change h. h) refl
step (Levels level) s = unfed (Levels level) s (λ change h. h) refl

pub fed_more : (changes : List Change) (happening : Happening) → fed_with_one changes happening ≡ changes ++ fed_with_one [] happening
fed_more changes (Opens number) = sym (append-nil changes)
fed_more changes (Hears number h) = sym (append-nil changes)
fed_more changes (Closes number) = sym (append-nil changes)
fed_more changes (Feeds change) = refl
fed_more changes (Ticks ms) = sym (append-nil changes)
fed_more changes (Levels level) = sym (append-nil changes)

-- moves before a step, and its own
pub record IsJoined (happening : Happening) (earlier : List Happening) (s : ServerState) (moves : List Move) : Type 0 where
  pub fair : AreFair moves (core_of s)
  pub leads : core_of (state_after (happening ∷ earlier) s) ≡ moved_all moves (core_of s)
  pub told : IsWithin (facts_said (said_after (happening ∷ earlier) s)) (facts_of_all moves (core_of s))

pub joined : (happening : Happening) (earlier : List Happening) (s : ServerState) (one other : List Move) → AreFair one (core_of s)
    → AreFair other (core_of (state_after earlier s)) → core_of (state_after earlier s) ≡ moved_all one (core_of s)
    → core_of (after happening (state_after earlier s)).state ≡ moved_all other (core_of (state_after earlier s))
    → IsWithin (facts_said (said_after earlier s)) (facts_of_all one (core_of s))
    → IsWithin (facts_said (after happening (state_after earlier s)).said) (facts_of_all other (core_of (state_after earlier s)))
    → IsJoined happening earlier s (one ++ other)
joined happening earlier s one other fair next_fair leads next_leads told next_told =
    let t : ServerState = state_after earlier s in
    let c : Core = core_of s in
    record {
      fair = fair_join one other c fair (subst (AreFair other) leads next_fair);
      leads = ap core_of (state_is happening earlier s) ∙ next_leads ∙ ap (moved_all other) leads ∙ sym (moved_join one other c);
      told = subst (λ l. IsWithin l (facts_of_all (one ++ other) c)) (sym (said_join (said_after earlier s) (after happening t).said))
          (subst (IsWithin (facts_said (said_after earlier s) ++ facts_said (after happening t).said)) (sym (facts_join one other c))
          (within_join (facts_said (said_after earlier s)) (facts_of_all one c) (facts_said (after happening t).said) (facts_of_all other (moved_all one c))
          told (subst (λ d. IsWithin (facts_said (after happening t).said) (facts_of_all other d)) leads next_told)));
    }

-- a step more
more : (happening : Happening) (earlier : List Happening) (s : ServerState) → IsCourse earlier s → IsStep happening (state_after earlier s)
    → IsCourse (happening ∷ earlier) s
more happening earlier s one other =
    let both = joined happening earlier s one.moves other.moves one.fair other.fair one.leads other.leads one.told other.told in
    record {
      moves = one.moves ++ other.moves;
      fair = both.fair;
      leads = both.leads;
      told = both.told;
      feeds = feeds_join one.moves other.moves ∙ ap (λ l. l ++ feeds_in other.moves) one.feeds ∙ ap (λ l. fed_in earlier ++ l) other.feeds
          ∙ sym (fed_more (fed_in earlier) happening);
      asked = asked_join (happening ∷ earlier) one.moves other.moves (asked_later happening earlier one.moves one.asked) (other.asked earlier);
    }

none_yet : (s : ServerState) → IsCourse [] s
unfolding state_after
none_yet s = record { moves = []; fair = tt; leads = refl; told = refl; feeds = refl; asked = tt }

pub course : (happenings : List Happening) (s : ServerState) → IsCourse happenings s
course [] s = none_yet s
course (happening ∷ earlier) s = more happening earlier s (course earlier s) (step happening (state_after earlier s))

pub life_stands : (config : ServerConfig) (current : List Change) (happenings : List Happening)
    → (c : IsCourse happenings (new_server config current))
    × ((id : ℕ) → Stands id (life_after id c.moves (core_of (new_server config current)) Unborn) (core_of (state_after happenings (new_server config current))))
life_stands config current happenings =
    let s : ServerState = new_server config current in
    let c = course happenings s in
    (c, λ id. subst (Stands id (life_after id c.moves (core_of s) Unborn)) (sym c.leads) (stands_all id c.moves Unborn (core_of s) c.fair refl))

-- ---- acts

said_more : (one other : List ServerAct) → said_in (one ++ other) ≡ said_in one ++ said_in other
said_more [] other = refl
said_more (act ∷ one) other = ap (λ l. said_by act ++ l) (said_more one other) ∙ sym (append_assoc (said_by act) (said_in one) (said_in other))

said_put : (said : List Said) → said_in (map Put said) ≡ said
said_put [] = refl
said_put (one ∷ said) = ap (λ l. one ∷ l) (said_put said)

pub acts_are : (happening : Happening) (earlier : List Happening) (s : ServerState)
    → reverse (history (happening ∷ earlier) s) ≡ reverse (history earlier s) ++ acts happening (state_after earlier s)
unfolding history
acts_are happening earlier s =
    reverse-append (reverse (acts happening (state_after earlier s))) (history earlier s)
    ∙ ap (λ l. reverse (history earlier s) ++ l) (reverse-reverse (acts happening (state_after earlier s)))

first_said : (happening : Happening) (said : List ServerAct) → said_in (first_act happening ∷ said) ≡ said_in said
first_said (Opens number) said = refl
first_said (Hears number h) said = refl
first_said (Closes number) said = refl
first_said (Feeds change) said = refl
first_said (Ticks ms) said = refl
first_said (Levels level) said = refl

none_said : (s : ServerState) → said_in (reverse (history [] s)) ≡ []
unfolding history
none_said s = refl

pub said_is : (happenings : List Happening) (s : ServerState) → said_in (reverse (history happenings s)) ≡ said_after happenings s
said_is [] s = none_said s
said_is (happening ∷ earlier) s =
    ap said_in (acts_are happening earlier s)
    ∙ said_more (reverse (history earlier s)) (acts happening (state_after earlier s))
    ∙ ap (λ l. l ++ said_in (acts happening (state_after earlier s))) (said_is earlier s)
    ∙ ap (λ l. said_after earlier s ++ l) (first_said happening (map Put (after happening (state_after earlier s)).said) ∙ said_put (after happening (state_after earlier s)).said)
