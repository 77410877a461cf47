-- A server has no more lives than one and one for each line that starts it.
use Rattle.std.proofs.Common.{◌≡◌, ◌≢◌, ◌⊎◌, inl, inr, ℕ, ◌+◌, ◌==◌, ◌≤◌, Bool, true, false, cond, List, [], ◌∷◌, length, filter, Option, Some, None, refl, sym, ap, subst, ◌∙◌, arith}
use Rattle.std.proofs.lemmas.Bool.Decides.{nat_tests}
use Rattle.std.proofs.lemmas.List.{length-set}
use Rattle.std.specs.List.{AllByRecursion}
use Rattle.set_model.specs.declared.source.Change.{Change}
use Rattle.direct_world.specs.Server.{place_in}
use Rattle.scenario.specs.Past.{starts}
use Rattle.scenario.specs.declared.line.Line.{Line}
use Rattle.scenario.specs.declared.line.Line.TheVariants as line
use Rattle.set_rules.specs.State.{Connection, SetState, Slot}
use Rattle.set_rules.specs.Nodes.{Nodes}
use Rattle.set_rules.specs.Slots.{stopped}
use Rattle.set_rules.specs.Moves.{ended, in_slot, slot_at}
use Rattle.set_rules.specs.World.{Beginning, after, after_all, at_place, begun, new_set}
use Rattle.set_rules.proofs.Places.{here_or_not, slot_here, slots_long}
use Rattle.set_histories.specs.Below.{before, over_after, over_at, over_by}
use Rattle.set_fitting.proofs.Walking.{Any, AreBegun, AreKept, ConnectionKept, LifeKept, LineIs, SetKept, ended_of, line_kept, place_is}

-- ---- lists of lives

less_before : {S : Type 0} (o : Option S) (lives : List S) → length lives ≤ length (before o lives)
less_before None lives = omega arith
less_before (Some life) lives = omega arith

before_most : {S : Type 0} (o : Option S) (lives : List S) → length (before o lives) ≤ length lives + 1
before_most None lives = omega arith
before_most (Some life) lives = omega arith

before_less : {S : Type 0} (o p : Option S) (lives : List S) → (o ≡ None → p ≡ None) → length (before p lives) ≤ length (before o lives)
before_less o None lives none = less_before o lives
before_less None (Some life) lives none = absurd (some_none life (none refl))
  where
    some_none : {S : Type 0} (life : S) → Some life ≡ None → ⊥
    some_none life same = cc
before_less (Some other) (Some life) lives none = omega arith

number_is : (n k : ℕ) → (n == k) ≡ true → n ≡ k
number_is n k same = grind (arith, nat_tests)

differs : (n k : ℕ) → (n == k) ≡ false → n ≡ k → ⊥
differs n k apart same = grind (arith, nat_tests)

next_same : (n k : ℕ) → n ≡ k → (k + 1 == n + 1) ≡ true
next_same n k same = grind (arith, nat_tests)

not_both : (b : Bool) → b ≡ true → b ≡ false → ⊥
not_both b one other = cc

-- ---- a set of which one server has no life

module _ {S C A : Type 0} (n : Nodes S C (List A)) (begins : Beginning S) (items count : ℕ) where
  -- what is kept of a life is of its place alone
  are_any : (At : ℕ → Type 0) → AreKept n begins items Any Any Any Any (λ (place : ℕ) (life : S). At place) (λ (age : ℕ) (c : C). Any c)
  are_any At = record {
    there_none = tt;
    back_none = tt;
    there_joined = λ wires more x y. tt;
    back_joined = λ wires more x y. tt;
    accepts = λ place number life x. x;
    ends = λ place number life x. x;
    hears = λ place number wires life come x. x;
    feeds = λ place change life is x. x;
    ticks = λ place ms life x. x;
    levels = λ place level life is x. x;
    answered = λ place number life x. tt;
    emptied = λ place number life x. x;
    connects = λ age number c x. tt;
    is_refused = λ age number c x. tt;
    loses = λ age number c x. tt;
    learns = λ age number wires c come x. tt;
    waits = λ age ms c x. tt;
    later = λ age c x. tt;
    asked = λ age number c x. tt;
    cleared = λ age number c x. tt;
    wish_taken = λ age number c x. tt;
  }

  abbrev IsAt : (At : ℕ → Type 0) → ℕ → SetState S C (List A) → Type 0
  IsAt At age w = SetKept n begins items Any Any Any Any (λ (place : ℕ) (life : S). At place) (λ (age : ℕ) (c : C). Any c) count age w

  abbrev LifeAt : (At : ℕ → Type 0) → ℕ → Option S → Type 0
  LifeAt At place o = LifeKept n begins items Any Any Any Any (λ (place : ℕ) (life : S). At place) (λ (age : ℕ) (c : C). Any c) place o

  abbrev FlightAt : (At : ℕ → Type 0) → Option (Connection (List A)) → Type 0
  FlightAt At o = ConnectionKept n begins items Any Any Any Any (λ (place : ℕ) (life : S). At place) (λ (age : ℕ) (c : C). Any c) o

  abbrev BegunAt : (At : ℕ → Type 0) → (ℕ → Type 0) → Type 0
  BegunAt At May = AreBegun n begins items Any Any Any Any (λ (place : ℕ) (life : S). At place) (λ (age : ℕ) (c : C). Any c) count May

  any_line : (At : ℕ → Type 0) (l : Line)
      → LineIs n begins items Any Any Any Any (λ (place : ℕ) (life : S). At place) (λ (age : ℕ) (c : C). Any c) l
  any_line At (line.Change change) = tt
  any_line At (line.Level server level) = tt
  any_line At other = tt

  any_changes : (changes : List Change) → AllByRecursion Any changes
  any_changes [] = tt
  any_changes (change ∷ changes) = (tt, any_changes changes)

  any_flight : (At : ℕ → Type 0) (o : Option (Connection (List A))) → FlightAt At o
  any_flight At None = tt
  any_flight At (Some c) = record { there = tt; back = tt }

  line_at : (At : ℕ → Type 0) (l : Line) (w : SetState S C (List A)) → BegunAt At (λ place. starts (place + 1) l ≡ true) → IsAt At 0 w
      → IsAt At 1 (after n begins items l w)
  line_at At l w may x =
      line_kept n begins items Any Any Any Any (λ (place : ℕ) (life : S). At place) (λ (age : ℕ) (c : C). Any c) count (are_any At) 0 l w may (any_line At l) x

  -- ---- it has as many servers as before

  life_any : (place : ℕ) (o : Option S) → LifeAt (λ place. Unit {0}) place o
  life_any place None = tt
  life_any place (Some life) = tt

  long_line : (l : Line) (w : SetState S C (List A)) → length w.slots ≡ count → length (after n begins items l w).slots ≡ count
  long_line l w long =
      (line_at (λ place. Unit {0}) l w (λ place boot current here may small all. tt) (record {
        long = long;
        source = any_changes w.source;
        client = tt;
        each = λ place here. (life_any place (slot_at place w).life, any_flight (λ place. Unit {0}) (slot_at place w).connection);
      })).long

  module _ (q : ℕ) (within : q + 1 ≤ count) where
    abbrev Apart : ℕ → Type 0
    Apart place = place ≢ q

    life_apart : (place : ℕ) (o : Option S) → (place ≡ q → o ≡ None) → (place ≡ q) ⊎ (place ≢ q) → LifeAt Apart place o
    life_apart place None none where_is = tt
    life_apart place (Some life) none (inl same) = absurd (some_none life (none same))
      where
        some_none : (life : S) → Some life ≡ None → ⊥
        some_none life is = cc
    life_apart place (Some life) none (inr differ) = differ

    no_life : (o : Option S) → LifeAt Apart q o → o ≡ None
    no_life None x = refl
    no_life (Some life) x = absurd (x refl)

    -- where the server has no life, all lives are of other servers
    is_apart : (age : ℕ) (w : SetState S C (List A)) → length w.slots ≡ count → (slot_at q w).life ≡ None → IsAt Apart age w
    is_apart age w long none = record {
      long = long;
      source = any_changes w.source;
      client = tt;
      each = λ place here. (
        life_apart place (slot_at place w).life (λ same. subst (λ k. (slot_at k w).life ≡ None) (sym same) none) (here_or_not (place == q) place q refl),
        any_flight Apart (slot_at place w).connection,
      );
    }

    stays_none : (l : Line) (w : SetState S C (List A)) → length w.slots ≡ count → starts (q + 1) l ≡ false → (slot_at q w).life ≡ None
        → (slot_at q (after n begins items l w)).life ≡ None
    stays_none l w long other none =
        no_life (slot_at q (after n begins items l w)).life ((line_at Apart l w
        (λ place boot current here may small all. λ same. not_both (starts (q + 1) l) (subst (λ k. starts (k + 1) l ≡ true) same may) other)
        (is_apart 0 w long none)).each q within).0

    ended_none : (w : SetState S C (List A)) → length w.slots ≡ count → (slot_at q (ended n q w)).life ≡ None
    ended_none w long =
        let there : q + 1 ≤ length w.slots = subst (λ k. q + 1 ≤ k) (sym long) within in
        let gone : (slot_at q (in_slot q stopped w)).life ≡ None = ap (λ (s : Slot S (List A)). s.life) (slot_here w.slots q (stopped (slot_at q w)) there) in
        no_life (slot_at q (ended n q w)).life
        ((ended_of n begins items Any Any Any Any (λ (place : ℕ) (life : S). Apart place) (λ (age : ℕ) (c : C). Any c) count (are_any Apart) 0 q w
        (is_apart 0 (in_slot q stopped w) (length-set w.slots q (stopped (slot_at q w)) ∙ long) gone)).each q within).0

    -- ---- how many lives there are

    abbrev lives_of : SetState S C (List A) → List S → ℕ
    lives_of w lives = length (before (slot_at q w).life lives)

    -- a life that is over was one
    here_less : (b : Bool) (here : ℕ) (w : SetState S C (List A)) (lives : ℕ → List S) → (q == here) ≡ b
        → length (cond b (before (slot_at here w).life (lives q)) (lives q)) ≤ lives_of w (lives q)
    here_less false here w lives is = less_before (slot_at q w).life (lives q)
    here_less true here w lives is =
        let same : q ≡ here = number_is q here is in
        subst (λ k. length (before (slot_at k w).life (lives q)) ≤ lives_of w (lives q)) same (omega arith)

    at_less : (o : Option ℕ) (w : SetState S C (List A)) (lives : ℕ → List S) → length (over_at o w lives q) ≤ lives_of w (lives q)
    at_less None w lives = less_before (slot_at q w).life (lives q)
    at_less (Some here) w lives = here_less (q == here) here w lives refl

    over_less : (l : Line) (w : SetState S C (List A)) (lives : ℕ → List S) → length (over_by l w lives q) ≤ lives_of w (lives q)
    over_less (line.Stop server) w lives = at_less (place_in server (length w.slots)) w lives
    over_less (line.Start server) w lives = at_less (place_in server (length w.slots)) w lives
    over_less other w lives = less_before (slot_at q w).life (lives q)

    -- a line that starts the server
    one_more : (l : Line) (w : SetState S C (List A)) (lives : ℕ → List S) → lives_of (after n begins items l w) (over_by l w lives q) ≤ lives_of w (lives q) + 1
    one_more l w lives =
        let least = over_less l w lives in
        let most = before_most (slot_at q (after n begins items l w)).life (over_by l w lives q) in
        omega (arith, least, most)

    -- a line that stops one
    stop_here : (b : Bool) (here : ℕ) (w : SetState S C (List A)) (lives : ℕ → List S) → (q == here) ≡ b → length w.slots ≡ count
        → ((slot_at q w).life ≡ None → (slot_at q (ended n here w)).life ≡ None)
        → length (before (slot_at q (ended n here w)).life (cond b (before (slot_at here w).life (lives q)) (lives q))) ≤ lives_of w (lives q)
    stop_here false here w lives is long none = before_less (slot_at q w).life (slot_at q (ended n here w)).life (lives q) none
    stop_here true here w lives is long none =
        let same : q ≡ here = number_is q here is in
        subst (λ k. length (before (slot_at q (ended n k w)).life (before (slot_at k w).life (lives q))) ≤ lives_of w (lives q)) same
        (subst (λ (o : Option S). length (before o (before (slot_at q w).life (lives q))) ≤ lives_of w (lives q)) (sym (ended_none w long)) (omega arith))

    stop_less : (o : Option ℕ) (w : SetState S C (List A)) (lives : ℕ → List S) → length w.slots ≡ count
        → ((slot_at q w).life ≡ None → (slot_at q (at_place n begins items o (ended n) w)).life ≡ None)
        → length (before (slot_at q (at_place n begins items o (ended n) w)).life (over_at o w lives q)) ≤ lives_of w (lives q)
    stop_less None w lives long none = omega arith
    stop_less (Some here) w lives long none = stop_here (q == here) here w lives refl long none

    -- a line that starts another one
    start_here : (b : Bool) (here : ℕ) (w : SetState S C (List A)) (lives : ℕ → List S) → (q == here) ≡ b → (q ≡ here → ⊥)
        → ((slot_at q w).life ≡ None → (slot_at q (begun n begins items here w)).life ≡ None)
        → length (before (slot_at q (begun n begins items here w)).life (cond b (before (slot_at here w).life (lives q)) (lives q))) ≤ lives_of w (lives q)
    start_here false here w lives is other none = before_less (slot_at q w).life (slot_at q (begun n begins items here w)).life (lives q) none
    start_here true here w lives is other none = absurd (other (number_is q here is))

    start_less : (o : Option ℕ) (w : SetState S C (List A)) (lives : ℕ → List S) → (o ≡ Some q → ⊥)
        → ((slot_at q w).life ≡ None → (slot_at q (at_place n begins items o (begun n begins items) w)).life ≡ None)
        → length (before (slot_at q (at_place n begins items o (begun n begins items) w)).life (over_at o w lives q)) ≤ lives_of w (lives q)
    start_less None w lives other none = omega arith
    start_less (Some here) w lives other none = start_here (q == here) here w lives refl (λ same. other (ap (λ k. Some k) (sym same))) none

    not_this : (server long : ℕ) → (server == q + 1) ≡ false → place_in server long ≡ Some q → ⊥
    not_this server long other found = differs server (q + 1) other (place_is server long q found)

    none_more : (l : Line) (w : SetState S C (List A)) (lives : ℕ → List S) → length w.slots ≡ count → starts (q + 1) l ≡ false
        → lives_of (after n begins items l w) (over_by l w lives q) ≤ lives_of w (lives q)
    none_more (line.Stop server) w lives long other =
        stop_less (place_in server (length w.slots)) w lives long (stays_none (line.Stop server) w long other)
    none_more (line.Start server) w lives long other =
        start_less (place_in server (length w.slots)) w lives (not_this server (length w.slots) other) (stays_none (line.Start server) w long other)
    none_more l w lives long other =
        before_less (slot_at q w).life (slot_at q (after n begins items l w)).life (lives q) (stays_none l w long other)

    counted : (lines : List Line) (w : SetState S C (List A)) (lives : ℕ → List S) → length w.slots ≡ count
        → lives_of (after_all n begins items lines w) (over_after n begins items lines w lives q)
        ≤ lives_of w (lives q) + length (filter (λ l. starts (q + 1) l) lines)
    counted [] w lives long = omega arith
    counted (l ∷ lines) w lives long =
        by_test (starts (q + 1) l) refl (counted lines (after n begins items l w) (over_by l w lives) (long_line l w long))
      where
        by_test : (b : Bool) → starts (q + 1) l ≡ b
            → lives_of (after_all n begins items lines (after n begins items l w)) (over_after n begins items lines (after n begins items l w) (over_by l w lives) q)
            ≤ lives_of (after n begins items l w) (over_by l w lives q) + length (filter (λ l. starts (q + 1) l) lines)
            → lives_of (after_all n begins items lines (after n begins items l w)) (over_after n begins items lines (after n begins items l w) (over_by l w lives) q)
            ≤ lives_of w (lives q) + length (cond b (l ∷ filter (λ l. starts (q + 1) l) lines) (filter (λ l. starts (q + 1) l) lines))
        by_test true is rest = let more = one_more l w lives in omega (arith, rest, more)
        by_test false is rest = let more = none_more l w lives long is in omega (arith, rest, more)

    -- of a set that begins
    abbrev pub first_set : C → SetState S C (List A)
    first_set c = new_set begins count c

    pub few_lives : (lines : List Line) (c : C)
        → lives_of (after_all n begins items lines (first_set c)) (over_after n begins items lines (first_set c) (λ other. []) q)
        ≤ 1 + length (filter (λ l. starts (q + 1) l) lines)
    few_lives lines c =
        let all = counted lines (first_set c) (λ other. []) (slots_long (List A) begins count) in
        let first = before_most (slot_at q (first_set c)).life [] in
        omega (arith, all, first)
