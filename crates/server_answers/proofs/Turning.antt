-- Answers come in their turn.
use Rattle.std.proofs.Common.{◌≡◌, ◌≤◌, ◌<◌, ℕ, ◌+◌, ◌-◌, ◌==◌, List, [], ◌∷◌, ◌++◌, Bool, true, false, cond, length, Some, refl, sym, ap, ◌∙◌, subst, arith, slice_get, ◌⊎◌, inl, inr}
use Rattle.std.specs.Prelude.{take}
use Rattle.std.proofs.lemmas.Bool.{cases_lt}
use Rattle.std.proofs.lemmas.Bool.Decides.{nat_tests}
use Rattle.std.proofs.lemmas.List.{append-nil, length-append, take_all}
use Rattle.set_model.specs.declared.source.Change.{Change}
use Rattle.ua_channel.specs.declared.heard.Heard.{Heard}
use Rattle.ua_channel.specs.declared.heard.Heard.TheVariants as heard_as
use Rattle.ua_channel.specs.declared.wire.Order.{Order}
use Rattle.ua_channel.specs.Orders.{puts_of}
use Rattle.ua_channel.specs.Sharing.{own}
use Rattle.ua_channel.specs.State.{WireState, is_deaf}
use Rattle.server_rules.specs.declared.config.ServerConfig.{ServerConfig}
use Rattle.server_rules.specs.State.{ServerState, new_server}
use Rattle.server_rules.specs.Said.{Said, order_of, orders_of}
use Rattle.server_rules.specs.Step.{Closes, Feeds, Happening, Hears, Levels, Opens, Ticks, after, ears}
use Rattle.server_rules.specs.Acts.{state_after}
use Rattle.server_laws.specs.Course.{said_after}
use Rattle.server_laws.specs.Lockstep.{IsNoPublish, IsQuiet, IsTold, MayHear, Other}
use Rattle.server_laws.specs.Numbers.{RiseTo, conn_numbers}
use Rattle.server_answers.specs.Turns.{AreHeard, AreNoPublish, IsAnswer, heard_by, heard_on, puts_on}
use Rattle.server_answers.proofs.Places.{map_join, none_before, none_behind, none_first, own_join, place_before, place_behind, place_of_one, puts_join}
use Rattle.server_answers.proofs.Putting.{AnswersPut, GetsOne, OpeningsAnswered, PutsOne, RequestsAnswered, closes_or_gets, heard_puts, none_own}
use Rattle.server_answers.proofs.Ending.{HighestIs, IsOver, StaysDeaf, closes, over_stays, over_then}

-- ---- what happens on a connection, and elsewhere

abbrev pub IsElsewhere : ℕ → Happening → Type 0
IsElsewhere conn happening = MayHear (Other conn) happening × (heard_by conn happening ≡ [])

abbrev pub IsHere : ℕ → Happening → Type 0
IsHere conn happening = (h : Heard) × (happening ≡ Hears conn h) × (heard_by conn happening ≡ h ∷ [])

heard_where : (b : Bool) (conn other : ℕ) (h : Heard) → (other == conn) ≡ b → IsElsewhere conn (Hears other h) ⊎ IsHere conn (Hears other h)
heard_where true conn other h test =
    let same : other ≡ conn = grind (arith, nat_tests) in
    inr (h, ap (λ (n : ℕ). Hears n h) same, ap (λ (b : Bool). cond b (h ∷ []) []) test)
heard_where false conn other h test = inl ((λ same. absurd (grind (arith, nat_tests))), ap (λ (b : Bool). cond b (h ∷ []) []) test)

where_is : (conn : ℕ) (happening : Happening) → IsElsewhere conn happening ⊎ IsHere conn happening
where_is conn (Hears other h) = heard_where (other == conn) conn other h refl
where_is conn (Opens other) = inl (tt, refl)
where_is conn (Closes other) = inl (tt, refl)
where_is conn (Feeds change) = inl (tt, refl)
where_is conn (Ticks ms) = inl (tt, refl)
where_is conn (Levels level) = inl (tt, refl)

one_at_most : (conn : ℕ) (happening : Happening) → IsElsewhere conn happening ⊎ IsHere conn happening → length (heard_by conn happening) ≤ 1
one_at_most conn happening (inl h) =
    let none : length (heard_by conn happening) ≡ 0 = ap (λ (l : List Heard). length l) h.1 in
    omega arith
one_at_most conn happening (inr h) =
    let one : length (heard_by conn happening) ≡ 1 = ap (λ (l : List Heard). length l) h.2 in
    omega arith

heard_before : (happening : Happening) (earlier : List Happening) (s : ServerState) → AreHeard (happening ∷ earlier) s → AreHeard earlier s
heard_before (Hears other h) earlier s x = x.1
heard_before (Opens other) earlier s x = x
heard_before (Closes other) earlier s x = x
heard_before (Feeds change) earlier s x = x
heard_before (Ticks ms) earlier s x = x
heard_before (Levels level) earlier s x = x

pub puts_then : (conn : ℕ) (happening : Happening) (earlier : List Happening) (s : ServerState)
    → puts_on conn (happening ∷ earlier) s ≡ puts_on conn earlier s ++ puts_of (own conn (orders_of (after happening (state_after earlier s)).said))
puts_then conn happening earlier s =
    let more = (after happening (state_after earlier s)).said in
    ap (λ (l : List (ℕ × Order)). puts_of (own conn l)) (map_join order_of (said_after earlier s) more)
    ∙ ap (λ (l : List Order). puts_of l) (own_join conn (orders_of (said_after earlier s)) (orders_of more))
    ∙ puts_join (own conn (orders_of (said_after earlier s))) (own conn (orders_of more))

state_then : (happening : Happening) (earlier : List Happening) (s : ServerState) → state_after (happening ∷ earlier) s ≡ (after happening (state_after earlier s)).state
unfolding state_after
state_then happening earlier s = refl

state_first : (s : ServerState) → state_after [] s ≡ s
unfolding state_after
state_first s = refl

-- ---- what other crates say

abbrev pub QuietFirst : Type 0
QuietFirst = (conn : ℕ) (config : ServerConfig) (current : List Change) → IsQuiet conn (new_server config current)

abbrev pub QuietOthers : Type 0
QuietOthers = (conn : ℕ) (happening : Happening) (s : ServerState) → MayHear (Other conn) happening → IsQuiet conn s → IsTold (Other conn) (after happening s)

abbrev pub QuietOwn : Type 0
QuietOwn = (conn : ℕ) (h : Heard) (s : ServerState) → IsNoPublish h → IsQuiet conn s → IsQuiet conn (after (Hears conn h) s).state

abbrev pub Rises : ServerState → Type 0
Rises s = (happenings : List Happening) → let now = state_after happenings s in RiseTo now.highest (conn_numbers now)

-- ---- a life, of which the beginning is quiet

-- as many messages were put on the connection as were heard there
pub record IsEven (conn : ℕ) (happenings : List Happening) (s : ServerState) : Type 0 where
  pub lengths : length (puts_on conn happenings s) ≡ length (heard_on conn happenings)
  pub quiet : IsQuiet conn (state_after happenings s)

-- a CLO was the last that was heard there
pub record IsDone (conn : ℕ) (happenings : List Happening) (s : ServerState) : Type 0 where
  pub lengths : length (puts_on conn happenings s) + 1 ≡ length (heard_on conn happenings)
  pub quiet : IsQuiet conn (state_after happenings s)
  pub over : IsOver conn (state_after happenings s)

both_not : (b : Bool) → b ≡ true → b ≡ false → ⊥
both_not true t f = absurd cc
both_not false t f = absurd cc

placed_one : (more : List WireState) (w wire : WireState) (k : ℕ) → more ≡ w ∷ [] → slice_get more k ≡ Some wire → (k ≡ 0) × (more ≡ wire ∷ [])
placed_one more w wire k is found =
    let one = place_of_one w wire k (sym (ap (λ (l : List WireState). slice_get l k) is) ∙ found) in
    (one.0, is ∙ ap (λ (x : WireState). x ∷ []) one.1)

placed_none : (more : List WireState) (wire : WireState) (k : ℕ) → more ≡ [] → slice_get more k ≡ Some wire → ⊥
placed_none more wire k none found =
    let nowhere : slice_get [] k ≡ Some wire = sym (ap (λ (l : List WireState). slice_get l k) none) ∙ found in
    absurd cc

-- what happens where, while no Publish waits
pub record IsStill (conn : ℕ) (happening : Happening) (earlier : List Happening) (s : ServerState) : Type 0 where
  pub none : puts_of (own conn (orders_of (after happening (state_after earlier s)).said)) ≡ []
  pub puts : puts_on conn (happening ∷ earlier) s ≡ puts_on conn earlier s
  pub quiet : IsQuiet conn (state_after (happening ∷ earlier) s)

module _ (requests : RequestsAnswered) (openings : OpeningsAnswered) (answers : AnswersPut) (others : QuietOthers) (owns : QuietOwn)
    (deaf : StaysDeaf) (highest : HighestIs) (conn : ℕ) (s : ServerState) where
  still : (happening : Happening) (earlier : List Happening) → IsElsewhere conn happening → IsQuiet conn (state_after earlier s) → IsStill conn happening earlier s
  still happening earlier there quiet =
      let told = others conn happening (state_after earlier s) there.0 quiet in
      let none : puts_of (own conn (orders_of (after happening (state_after earlier s)).said)) ≡ [] =
      ap (λ (l : List Order). puts_of l) (none_own conn (after happening (state_after earlier s)).said told.on) in
      record {
        none = none;
        puts = puts_then conn happening earlier s ∙ ap (λ (l : List WireState). puts_on conn earlier s ++ l) none ∙ append-nil (puts_on conn earlier s);
        quiet = subst (λ (t : ServerState). IsQuiet conn t) (sym (state_then happening earlier s)) told.waits;
      }

  same_heard : (happening : Happening) (earlier : List Happening) → IsElsewhere conn happening → heard_on conn (happening ∷ earlier) ≡ heard_on conn earlier
  same_heard happening earlier there = ap (λ (l : List Heard). heard_on conn earlier ++ l) there.1 ∙ append-nil (heard_on conn earlier)

  even_elsewhere : (happening : Happening) (earlier : List Happening) → IsElsewhere conn happening → IsEven conn earlier s → IsEven conn (happening ∷ earlier) s
  even_elsewhere happening earlier there even =
      let now = still happening earlier there even.quiet in
      record {
        lengths = ap (λ (l : List WireState). length l) now.puts ∙ even.lengths ∙ sym (ap (λ (l : List Heard). length l) (same_heard happening earlier there));
        quiet = now.quiet;
      }

  over_then_still : (happening : Happening) (earlier : List Happening) → IsOver conn (state_after earlier s) → IsOver conn (state_after (happening ∷ earlier) s)
  over_then_still happening earlier over =
      subst (λ (t : ServerState). IsOver conn t) (sym (state_then happening earlier s)) (over_stays deaf highest conn happening (state_after earlier s) over)

  done_elsewhere : (happening : Happening) (earlier : List Happening) → IsElsewhere conn happening → IsDone conn earlier s → IsDone conn (happening ∷ earlier) s
  done_elsewhere happening earlier there done =
      let now = still happening earlier there done.quiet in
      record {
        lengths = ap (λ (l : List WireState). length l + 1) now.puts ∙ done.lengths ∙ sym (ap (λ (l : List Heard). length l) (same_heard happening earlier there));
        quiet = now.quiet;
        over = over_then_still happening earlier done.over;
      }

  even_here : (h : Heard) (earlier : List Happening) → heard_by conn (Hears conn h) ≡ h ∷ [] → is_deaf (ears conn (state_after earlier s)) ≡ false → IsNoPublish h
      → GetsOne h → IsEven conn earlier s → IsEven conn (Hears conn h ∷ earlier) s
  even_here h earlier there hears no_publish gets even =
      let one : PutsOne conn (after (Hears conn h) (state_after earlier s)).said = heard_puts requests openings answers conn h (state_after earlier s) hears even.quiet gets in
      let puts : puts_on conn (Hears conn h ∷ earlier) s ≡ puts_on conn earlier s ++ one.0 ∷ [] =
      puts_then conn (Hears conn h) earlier s ∙ ap (λ (l : List WireState). puts_on conn earlier s ++ l) one.1 in
      let heard : heard_on conn (Hears conn h ∷ earlier) ≡ heard_on conn earlier ++ h ∷ [] = ap (λ (l : List Heard). heard_on conn earlier ++ l) there in
      record {
        lengths = ap (λ (l : List WireState). length l) puts ∙ length-append (puts_on conn earlier s) (one.0 ∷ []) ∙ ap (λ n. n + 1) even.lengths
            ∙ sym (length-append (heard_on conn earlier) (h ∷ [])) ∙ sym (ap (λ (l : List Heard). length l) heard);
        quiet = subst (λ (t : ServerState). IsQuiet conn t) (sym (state_then (Hears conn h) earlier s)) (owns conn h (state_after earlier s) no_publish even.quiet);
      }

  -- a CLO puts nothing
  none_closing : (h : Heard) (earlier : List Happening) → h ≡ heard_as.Close → is_deaf (ears conn (state_after earlier s)) ≡ false
      → puts_of (own conn (orders_of (after (Hears conn h) (state_after earlier s)).said)) ≡ []
  none_closing h earlier is hears =
      ap (λ (x : Heard). puts_of (own conn (orders_of (after (Hears conn x) (state_after earlier s)).said))) is
      ∙ ap (λ (l : List Said). puts_of (own conn (orders_of l))) (closes conn (state_after earlier s) hears).none

  module _ (begins : IsQuiet conn s) (rises : Rises s) where
    over_here : (h : Heard) (earlier : List Happening) → h ≡ heard_as.Close → is_deaf (ears conn (state_after earlier s)) ≡ false
        → IsOver conn (state_after (Hears conn h ∷ earlier) s)
    over_here h earlier is hears =
        subst (λ (t : ServerState). IsOver conn t) (sym (state_then (Hears conn h) earlier s))
        (subst (λ (x : Heard). IsOver conn (after (Hears conn x) (state_after earlier s)).state) (sym is)
        (over_then highest conn (state_after earlier s) hears (rises earlier)))

    done_here : (h : Heard) (earlier : List Happening) → heard_by conn (Hears conn h) ≡ h ∷ [] → is_deaf (ears conn (state_after earlier s)) ≡ false → IsNoPublish h
        → h ≡ heard_as.Close → IsEven conn earlier s → IsDone conn (Hears conn h ∷ earlier) s
    done_here h earlier there hears no_publish is even =
        let puts : puts_on conn (Hears conn h ∷ earlier) s ≡ puts_on conn earlier s =
        puts_then conn (Hears conn h) earlier s ∙ ap (λ (l : List WireState). puts_on conn earlier s ++ l) (none_closing h earlier is hears)
        ∙ append-nil (puts_on conn earlier s) in
        let heard : heard_on conn (Hears conn h ∷ earlier) ≡ heard_on conn earlier ++ h ∷ [] = ap (λ (l : List Heard). heard_on conn earlier ++ l) there in
        record {
          lengths = ap (λ (l : List WireState). length l + 1) puts ∙ ap (λ n. n + 1) even.lengths
              ∙ sym (length-append (heard_on conn earlier) (h ∷ [])) ∙ sym (ap (λ (l : List Heard). length l) heard);
          quiet = subst (λ (t : ServerState). IsQuiet conn t) (sym (state_then (Hears conn h) earlier s)) (owns conn h (state_after earlier s) no_publish even.quiet);
          over = over_here h earlier is hears;
        }

    by_kind : (h : Heard) (earlier : List Happening) → heard_by conn (Hears conn h) ≡ h ∷ [] → is_deaf (ears conn (state_after earlier s)) ≡ false → IsNoPublish h
        → (h ≡ heard_as.Close) ⊎ GetsOne h → IsEven conn earlier s → IsEven conn (Hears conn h ∷ earlier) s ⊎ IsDone conn (Hears conn h ∷ earlier) s
    by_kind h earlier there hears no_publish (inl is) even = inr (done_here h earlier there hears no_publish is even)
    by_kind h earlier there hears no_publish (inr gets) even = inl (even_here h earlier there hears no_publish gets even)

    here_by : (h : Heard) (earlier : List Happening) → heard_by conn (Hears conn h) ≡ h ∷ [] → is_deaf (ears conn (state_after earlier s)) ≡ false → IsNoPublish h
        → IsEven conn earlier s ⊎ IsDone conn earlier s → IsEven conn (Hears conn h ∷ earlier) s ⊎ IsDone conn (Hears conn h ∷ earlier) s
    here_by h earlier there hears no_publish (inl even) = by_kind h earlier there hears no_publish (closes_or_gets h no_publish) even
    here_by h earlier there hears no_publish (inr done) = absurd (both_not (is_deaf (ears conn (state_after earlier s))) done.over.deaf hears)

    even_by : (happening : Happening) (earlier : List Happening) → IsElsewhere conn happening ⊎ IsHere conn happening → AreHeard (happening ∷ earlier) s
        → AreNoPublish (heard_by conn happening) → IsEven conn earlier s ⊎ IsDone conn earlier s
        → IsEven conn (happening ∷ earlier) s ⊎ IsDone conn (happening ∷ earlier) s
    even_by happening earlier (inl there) hears gets (inl even) = inl (even_elsewhere happening earlier there even)
    even_by happening earlier (inl there) hears gets (inr done) = inr (done_elsewhere happening earlier there done)
    even_by happening earlier (inr here) hears gets was =
        let now : heard_by conn (Hears conn here.0) ≡ here.0 ∷ [] = subst (λ (x : Happening). heard_by conn x ≡ here.0 ∷ []) here.1 here.2 in
        let heard : AreHeard (Hears conn here.0 ∷ earlier) s = subst (λ (x : Happening). AreHeard (x ∷ earlier) s) here.1 hears in
        let one : AreNoPublish (here.0 ∷ []) = subst AreNoPublish here.2 gets in
        subst (λ (x : Happening). IsEven conn (x ∷ earlier) s ⊎ IsDone conn (x ∷ earlier) s) (sym here.1)
        (here_by here.0 earlier now heard.0 one.0 was)

    even_after : (happenings : List Happening) → AreHeard happenings s → AreNoPublish (heard_on conn happenings) → IsEven conn happenings s ⊎ IsDone conn happenings s
    even_after [] hears gets = inl (record { lengths = refl; quiet = subst (λ (t : ServerState). IsQuiet conn t) (sym (state_first s)) begins })
    even_after (happening ∷ earlier) hears gets =
        even_by happening earlier (where_is conn happening) hears (none_behind (heard_on conn earlier) (heard_by conn happening) gets)
        (even_after earlier (heard_before happening earlier s hears) (none_before (heard_on conn earlier) (heard_by conn happening) gets))

    -- ---- as many as were heard were put, until then or until a CLO

    done_by : (happening : Happening) (earlier : List Happening) → IsElsewhere conn happening ⊎ IsHere conn happening → AreHeard (happening ∷ earlier) s
        → IsDone conn earlier s → IsDone conn (happening ∷ earlier) s
    done_by happening earlier (inl there) hears done = done_elsewhere happening earlier there done
    done_by happening earlier (inr here) hears done =
        let heard : AreHeard (Hears conn here.0 ∷ earlier) s = subst (λ (x : Happening). AreHeard (x ∷ earlier) s) here.1 hears in
        absurd (both_not (is_deaf (ears conn (state_after earlier s))) done.over.deaf heard.0)

    more_heard : (happening : Happening) (earlier : List Happening)
        → length (heard_on conn earlier ++ heard_by conn happening) ≡ length (heard_on conn earlier) + length (heard_by conn happening)
    more_heard happening earlier = length-append (heard_on conn earlier) (heard_by conn happening)

    all_put : (n : ℕ) (happenings : List Happening) → n ≤ length (heard_on conn happenings) → IsEven conn happenings s ⊎ IsDone conn happenings s
        → (n ≤ length (puts_on conn happenings s)) ⊎ IsDone conn happenings s
    all_put n happenings within (inl even) =
        let lengths : length (puts_on conn happenings s) ≡ length (heard_on conn happenings) = even.lengths in
        inl (omega arith)
    all_put n happenings within (inr done) = inr done

    reaches : (n : ℕ) (happenings : List Happening) → AreHeard happenings s → n ≤ length (heard_on conn happenings) → AreNoPublish (take n (heard_on conn happenings))
        → (n ≤ length (puts_on conn happenings s)) ⊎ IsDone conn happenings s
    reaches n [] hears within gets = inl within
    reaches n (happening ∷ earlier) hears within gets =
        by_length (cases_lt (length (heard_on conn earlier)) n) (reaches n earlier (heard_before happening earlier s hears))
      where
        more : List WireState
        more = puts_of (own conn (orders_of (after happening (state_after earlier s)).said))

        puts_are : length (puts_on conn (happening ∷ earlier) s) ≡ length (puts_on conn earlier s) + length more
        puts_are = ap (λ (l : List WireState). length l) (puts_then conn happening earlier s) ∙ length-append (puts_on conn earlier s) more

        by_rest : (n ≤ length (puts_on conn earlier s)) ⊎ IsDone conn earlier s
            → (n ≤ length (puts_on conn (happening ∷ earlier) s)) ⊎ IsDone conn (happening ∷ earlier) s
        by_rest (inl front) =
            let is : length (puts_on conn (happening ∷ earlier) s) ≡ length (puts_on conn earlier s) + length more = puts_are in
            inl (omega arith)
        by_rest (inr done) = inr (done_by happening earlier (where_is conn happening) hears done)

        by_length : (length (heard_on conn earlier) < n) ⊎ (n ≤ length (heard_on conn earlier))
            → (n ≤ length (heard_on conn earlier) → AreNoPublish (take n (heard_on conn earlier)) → (n ≤ length (puts_on conn earlier s)) ⊎ IsDone conn earlier s)
            → (n ≤ length (puts_on conn (happening ∷ earlier) s)) ⊎ IsDone conn (happening ∷ earlier) s
        by_length (inr low) rest = by_rest (rest low (none_first n (heard_on conn earlier) (heard_by conn happening) gets))
        by_length (inl high) rest =
            let most : length (heard_by conn happening) ≤ 1 = one_at_most conn happening (where_is conn happening) in
            let is : length (heard_on conn earlier ++ heard_by conn happening) ≡ length (heard_on conn earlier) + length (heard_by conn happening) =
            more_heard happening earlier in
            let full : length (heard_on conn earlier ++ heard_by conn happening) ≤ n = omega arith in
            let all : AreNoPublish (heard_on conn (happening ∷ earlier)) = subst AreNoPublish (take_all n (heard_on conn earlier ++ heard_by conn happening) full) gets in
            all_put n (happening ∷ earlier) within (even_after (happening ∷ earlier) hears all)

    -- ---- so each answers in its turn

    -- what is put at a place in this step
    abbrev IsFound : ℕ → WireState → Happening → List Happening → Type 0
    IsFound place wire happening earlier =
        slice_get (puts_of (own conn (orders_of (after happening (state_after earlier s)).said))) (place - length (puts_on conn earlier s)) ≡ Some wire

    answer_one : (place : ℕ) (wire : WireState) (h : Heard) (earlier : List Happening) → is_deaf (ears conn (state_after earlier s)) ≡ false → GetsOne h
        → IsEven conn earlier s → length (puts_on conn earlier s) ≤ place → IsFound place wire (Hears conn h) earlier
        → IsAnswer conn place wire (Hears conn h ∷ earlier) s
    answer_one place wire h earlier hears gets even high found =
        let one : PutsOne conn (after (Hears conn h) (state_after earlier s)).said = heard_puts requests openings answers conn h (state_after earlier s) hears even.quiet gets in
        let only = placed_one _ one.0 wire (place - length (puts_on conn earlier s)) one.1 found in
        let none : place - length (puts_on conn earlier s) ≡ 0 = only.0 in
        let same : length (puts_on conn earlier s) ≡ length (heard_on conn earlier) = even.lengths in
        record { later = []; heard = h; earlier = earlier; are = refl; place_is = omega arith; puts = only.1 }

    answer_here : (place : ℕ) (wire : WireState) (h : Heard) (earlier : List Happening) → is_deaf (ears conn (state_after earlier s)) ≡ false
        → (h ≡ heard_as.Close) ⊎ GetsOne h → IsEven conn earlier s → length (puts_on conn earlier s) ≤ place → IsFound place wire (Hears conn h) earlier
        → IsAnswer conn place wire (Hears conn h ∷ earlier) s
    answer_here place wire h earlier hears (inl is) even high found =
        absurd (placed_none _ wire (place - length (puts_on conn earlier s)) (none_closing h earlier is hears) found)
    answer_here place wire h earlier hears (inr gets) even high found = answer_one place wire h earlier hears gets even high found

    none_still : (place : ℕ) (wire : WireState) (happening : Happening) (earlier : List Happening) → IsElsewhere conn happening → IsQuiet conn (state_after earlier s)
        → IsFound place wire happening earlier → ⊥
    none_still place wire happening earlier there quiet found =
        placed_none _ wire (place - length (puts_on conn earlier s)) (still happening earlier there quiet).none found

    none_done : (place : ℕ) (wire : WireState) (happening : Happening) (earlier : List Happening) → IsElsewhere conn happening ⊎ IsHere conn happening
        → AreHeard (happening ∷ earlier) s → IsDone conn earlier s → IsFound place wire happening earlier → ⊥
    none_done place wire happening earlier (inl there) hears done found = none_still place wire happening earlier there done.quiet found
    none_done place wire happening earlier (inr here) hears done found =
        let heard : AreHeard (Hears conn here.0 ∷ earlier) s = subst (λ (x : Happening). AreHeard (x ∷ earlier) s) here.1 hears in
        both_not (is_deaf (ears conn (state_after earlier s))) done.over.deaf heard.0

    answer_by : (place : ℕ) (wire : WireState) (happening : Happening) (earlier : List Happening) → IsElsewhere conn happening ⊎ IsHere conn happening
        → AreHeard (happening ∷ earlier) s → AreNoPublish (heard_by conn happening) → IsEven conn earlier s ⊎ IsDone conn earlier s
        → length (puts_on conn earlier s) ≤ place → IsFound place wire happening earlier → IsAnswer conn place wire (happening ∷ earlier) s
    answer_by place wire happening earlier there hears gets (inr done) high found = absurd (none_done place wire happening earlier there hears done found)
    answer_by place wire happening earlier (inl there) hears gets (inl even) high found =
        absurd (none_still place wire happening earlier there even.quiet found)
    answer_by place wire happening earlier (inr here) hears gets (inl even) high found =
        let heard : AreHeard (Hears conn here.0 ∷ earlier) s = subst (λ (x : Happening). AreHeard (x ∷ earlier) s) here.1 hears in
        let one : AreNoPublish (here.0 ∷ []) = subst AreNoPublish here.2 gets in
        let at : IsFound place wire (Hears conn here.0) earlier = subst (λ (x : Happening). IsFound place wire x earlier) here.1 found in
        subst (λ (x : Happening). IsAnswer conn place wire (x ∷ earlier) s) (sym here.1)
        (answer_here place wire here.0 earlier heard.0 (closes_or_gets here.0 one.0) even high at)

    answer_before : (place : ℕ) (wire : WireState) (happening : Happening) (earlier : List Happening) → IsAnswer conn place wire earlier s
        → IsAnswer conn place wire (happening ∷ earlier) s
    answer_before place wire happening earlier x =
        record { later = happening ∷ x.later; heard = x.heard; earlier = x.earlier; are = ap (λ l. happening ∷ l) x.are; place_is = x.place_is; puts = x.puts }

    -- the place is behind all that were put before, though so many were heard
    none_long : (place : ℕ) (wire : WireState) (happening : Happening) (earlier : List Happening) → AreHeard (happening ∷ earlier) s
        → length (puts_on conn earlier s) ≤ place → IsFound place wire happening earlier
        → (place + 1 ≤ length (puts_on conn earlier s)) ⊎ IsDone conn earlier s → ⊥
    none_long place wire happening earlier hears high found (inl far) = absurd (omega arith)
    none_long place wire happening earlier hears high found (inr done) = none_done place wire happening earlier (where_is conn happening) hears done found

    answer_last : (place : ℕ) (wire : WireState) (happening : Happening) (earlier : List Happening) → AreHeard (happening ∷ earlier) s
        → AreNoPublish (take (place + 1) (heard_on conn earlier ++ heard_by conn happening)) → length (puts_on conn earlier s) ≤ place
        → IsFound place wire happening earlier → (place < length (heard_on conn earlier)) ⊎ (length (heard_on conn earlier) ≤ place)
        → IsAnswer conn place wire (happening ∷ earlier) s
    answer_last place wire happening earlier hears gets high found (inl long) =
        let front : AreNoPublish (take (place + 1) (heard_on conn earlier)) = none_first (place + 1) (heard_on conn earlier) (heard_by conn happening) gets in
        absurd (none_long place wire happening earlier hears high found (reaches (place + 1) earlier (heard_before happening earlier s hears) (omega arith) front))
    answer_last place wire happening earlier hears gets high found (inr short) =
        let most : length (heard_by conn happening) ≤ 1 = one_at_most conn happening (where_is conn happening) in
        let is : length (heard_on conn earlier ++ heard_by conn happening) ≡ length (heard_on conn earlier) + length (heard_by conn happening) =
        more_heard happening earlier in
        let full : length (heard_on conn earlier ++ heard_by conn happening) ≤ place + 1 = omega arith in
        let all : AreNoPublish (heard_on conn earlier ++ heard_by conn happening) =
        subst AreNoPublish (take_all (place + 1) (heard_on conn earlier ++ heard_by conn happening) full) gets in
        answer_by place wire happening earlier (where_is conn happening) hears (none_behind (heard_on conn earlier) (heard_by conn happening) all)
        (even_after earlier (heard_before happening earlier s hears) (none_before (heard_on conn earlier) (heard_by conn happening) all)) high found

    pub answer_in_turn : (happenings : List Happening) (place : ℕ) (wire : WireState) → AreHeard happenings s → slice_get (puts_on conn happenings s) place ≡ Some wire
        → AreNoPublish (take (place + 1) (heard_on conn happenings)) → IsAnswer conn place wire happenings s
    answer_in_turn [] place wire hears found gets = absurd (placed_none [] wire place refl found)
    answer_in_turn (happening ∷ earlier) place wire hears found gets =
        by_place (cases_lt place (length (puts_on conn earlier s))) (answer_in_turn earlier place wire (heard_before happening earlier s hears))
      where
        more : List WireState
        more = puts_of (own conn (orders_of (after happening (state_after earlier s)).said))

        at : slice_get (puts_on conn earlier s ++ more) place ≡ Some wire
        at = sym (ap (λ (l : List WireState). slice_get l place) (puts_then conn happening earlier s)) ∙ found

        by_place : (place < length (puts_on conn earlier s)) ⊎ (length (puts_on conn earlier s) ≤ place)
            → (slice_get (puts_on conn earlier s) place ≡ Some wire → AreNoPublish (take (place + 1) (heard_on conn earlier)) → IsAnswer conn place wire earlier s)
            → IsAnswer conn place wire (happening ∷ earlier) s
        by_place (inl low) rest =
            answer_before place wire happening earlier
            (rest (sym (place_before (puts_on conn earlier s) more place low) ∙ at) (none_first (place + 1) (heard_on conn earlier) (heard_by conn happening) gets))
        by_place (inr high) rest =
            answer_last place wire happening earlier hears gets high (sym (place_behind (puts_on conn earlier s) more place high) ∙ at)
            (cases_lt place (length (heard_on conn earlier)))
