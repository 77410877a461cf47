-- Connections are those that were opened, and weren't closed.
use Rattle.std.proofs.Common.{◌≡◌, ℕ, ◌==◌, ◌<◌, ◌≤◌, List, [], ◌∷◌, ◌++◌, Bool, true, false, cond, not, nat_lt, map, filter, Option, Some, None, refl, sym, ap, ◌∙◌, subst, arith, inr}
use Rattle.std.proofs.lemmas.Bool.Decides.{nat_tests}
use Rattle.std.proofs.lemmas.List.{map-append}
use Rattle.set_model.specs.declared.source.Change.{Change}
use Rattle.sessions.specs.declared.session.Session.{Session}
use Rattle.server_rules.specs.declared.config.ServerConfig.{ServerConfig}
use Rattle.server_rules.specs.declared.conn.Conn.{Conn}
use Rattle.server_rules.specs.State.{ServerState, conn_at, is_conn, new_server}
use Rattle.server_rules.specs.Said.{nothing}
use Rattle.server_rules.specs.Connecting.{closed, closed_by, first_ear, is_above, new_conn, opened, with_new_conn}
use Rattle.server_rules.specs.Step.{Happening, Opens, Hears, Closes, Feeds, Ticks, Levels, after}
use Rattle.server_rules.specs.Acts.{state_after}
use Rattle.server_laws.specs.Lockstep.{AllWait, Anywhere}
use Rattle.server_laws.specs.Numbers.{AreAbove, RiseTo, conn_numbers, highest_after, numbers_after}
use Rattle.server_laws.proofs.Living.{state_is}
use Rattle.server_laws.proofs.Quieting.{fed_tells, heard_tells, leveled_tells}
use Rattle.server_laws.proofs.Silent.{numbers_of, ticked_tells}

-- ---- all but opening and closing leaves them

anywhere : (sessions : List Session) → AllWait Anywhere sessions
anywhere [] = tt
anywhere (x ∷ sessions) = (λ conn is. inr tt, anywhere sessions)

-- the highest number, and those that are there
pub record IsCounted (happening : Happening) (s : ServerState) : Type 0 where
  pub numbers : conn_numbers (after happening s).state ≡ numbers_after happening s
  pub highest : (after happening s).state.highest ≡ highest_after happening s

begun : (b : Bool) (number : ℕ) (s : ServerState) → conn_numbers (cond b (nothing (with_new_conn number s)) (nothing s)).state ≡ cond b (conn_numbers s ++ number ∷ []) (conn_numbers s)
begun true number s = map-append (λ (conn : Conn). conn.number) s.conns (new_conn number (first_ear s.conns) ∷ [])
begun false number s = refl

begun_highest : (b : Bool) (number : ℕ) (s : ServerState) → (cond b (nothing (with_new_conn number s)) (nothing s)).state.highest ≡ cond b (Some number) s.highest
begun_highest true number s = refl
begun_highest false number s = refl

opened_numbers : (number : ℕ) (s : ServerState) → IsCounted (Opens number) s
unfolding opened
opened_numbers number s = record { numbers = begun (is_above s.highest number) number s; highest = begun_highest (is_above s.highest number) number s }

-- without those of a number
kept_by : (b : Bool) (number : ℕ) (x : Conn) (rest : List Conn) → map (λ (conn : Conn). conn.number) (cond (not b) (x ∷ rest) rest)
    ≡ cond (not b) (x.number ∷ map (λ (conn : Conn). conn.number) rest) (map (λ (conn : Conn). conn.number) rest)
kept_by true number x rest = refl
kept_by false number x rest = refl

less_numbers : (number : ℕ) (conns : List Conn)
    → map (λ (conn : Conn). conn.number) (filter (λ conn. not (is_conn number conn)) conns) ≡ filter (λ other. not (other == number)) (map (λ (conn : Conn). conn.number) conns)
less_numbers number [] = refl
less_numbers number (x ∷ conns) =
    kept_by (is_conn number x) number x (filter (λ conn. not (is_conn number conn)) conns)
    ∙ ap (λ l. cond (not (x.number == number)) (x.number ∷ l) l) (less_numbers number conns)

none_by : (b : Bool) (number : ℕ) (x : Conn) (rest : Option Conn) (numbers all : List ℕ) → is_conn number x ≡ b → cond b (Some x) rest ≡ None
    → (rest ≡ None → numbers ≡ all) → cond (not b) (x.number ∷ numbers) numbers ≡ x.number ∷ all
none_by true number x rest numbers all test is on = absurd cc
none_by false number x rest numbers all test is on = ap (λ l. x.number ∷ l) (on is)

none_less : (number : ℕ) (conns : List Conn) → conn_at number conns ≡ None
    → filter (λ other. not (other == number)) (map (λ (conn : Conn). conn.number) conns) ≡ map (λ (conn : Conn). conn.number) conns
none_less number [] is = refl
none_less number (x ∷ conns) is =
    none_by (is_conn number x) number x (conn_at number conns) (filter (λ other. not (other == number)) (map (λ (conn : Conn). conn.number) conns))
    (map (λ (conn : Conn). conn.number) conns) refl is (none_less number conns)

closed_numbers_by : (found : Option Conn) (number : ℕ) (s : ServerState) → conn_at number s.conns ≡ found
    → conn_numbers (closed_by found number s).state ≡ filter (λ other. not (other == number)) (conn_numbers s)
closed_numbers_by None number s is = sym (none_less number s.conns is)
closed_numbers_by (Some conn) number s is = less_numbers number s.conns

closed_highest_by : (found : Option Conn) (number : ℕ) (s : ServerState) → (closed_by found number s).state.highest ≡ s.highest
closed_highest_by None number s = refl
closed_highest_by (Some conn) number s = refl

closed_numbers : (number : ℕ) (s : ServerState) → IsCounted (Closes number) s
unfolding closed
closed_numbers number s = record { numbers = closed_numbers_by (conn_at number s.conns) number s refl; highest = closed_highest_by (conn_at number s.conns) number s }

same_numbers : (s t : ServerState) → numbers_of t ≡ numbers_of s → (conn_numbers t ≡ conn_numbers s) × (t.highest ≡ s.highest)
same_numbers s t is = (ap (λ (numbers : Option ℕ × List ℕ). numbers.1) is, ap (λ (numbers : Option ℕ × List ℕ). numbers.0) is)

pub counted : (happening : Happening) (s : ServerState) → IsCounted happening s
counted (Opens number) s = opened_numbers number s
counted (Hears conn h) s =
    let same = same_numbers s (after (Hears conn h) s).state (heard_tells Anywhere conn h s tt (anywhere s.sessions.sessions)).numbers in
    record { numbers = same.0; highest = same.1 }
counted (Closes number) s = closed_numbers number s
counted (Feeds change) s =
    let same = same_numbers s (after (Feeds change) s).state (fed_tells Anywhere change s (anywhere s.sessions.sessions)).numbers in
    record { numbers = same.0; highest = same.1 }
counted (Ticks ms) s =
    let same = same_numbers s (after (Ticks ms) s).state (ticked_tells Anywhere ms s (anywhere s.sessions.sessions)).numbers in
    record { numbers = same.0; highest = same.1 }
counted (Levels level) s =
    let same = same_numbers s (after (Levels level) s).state (leveled_tells Anywhere level s (anywhere s.sessions.sessions)).numbers in
    record { numbers = same.0; highest = same.1 }

pub numbers_are : (happening : Happening) (s : ServerState) → conn_numbers (after happening s).state ≡ numbers_after happening s
numbers_are happening s = (counted happening s).numbers

pub highest_is : (happening : Happening) (s : ServerState) → (after happening s).state.highest ≡ highest_after happening s
highest_is happening s = (counted happening s).highest

-- ---- they rise

above_more : (low number : ℕ) (numbers : List ℕ) → low < number → AreAbove low numbers → AreAbove low (numbers ++ number ∷ [])
above_more low number [] above h = (above, tt)
above_more low number (other ∷ numbers) above h = (h.0, above_more low number numbers above h.1)

above_of : (highest number : ℕ) → nat_lt highest number ≡ true → highest < number
above_of highest number test = grind (arith, nat_tests)

more_under : (highest number : ℕ) (numbers : List ℕ) → highest < number → RiseTo (Some highest) numbers → RiseTo (Some number) (numbers ++ number ∷ [])
more_under highest number [] above h = (omega arith, tt, tt)
more_under highest number (other ∷ numbers) above h =
    let below : other ≤ highest = h.0 in
    (omega (arith, below, above), above_more other number numbers (omega (arith, below, above)) h.1, more_under highest number numbers above h.2)

rise_more : (highest : Option ℕ) (number : ℕ) (numbers : List ℕ) → is_above highest number ≡ true → RiseTo highest numbers → RiseTo (Some number) (numbers ++ number ∷ [])
rise_more None number [] test h = (omega arith, tt, tt)
rise_more None number (other ∷ numbers) test h = absurd h
rise_more (Some highest) number numbers test h = more_under highest number numbers (above_of highest number test) h

above_less : (low : ℕ) (test : ℕ → Bool) (numbers : List ℕ) → AreAbove low numbers → AreAbove low (filter test numbers)
above_less low test [] h = tt
above_less low test (other ∷ numbers) h = by_test (test other) (above_less low test numbers h.1)
  where
    by_test : (b : Bool) → AreAbove low (filter test numbers) → AreAbove low (cond b (other ∷ filter test numbers) (filter test numbers))
    by_test true rest = (h.0, rest)
    by_test false rest = rest

less_by : (b : Bool) (highest number : ℕ) (numbers : List ℕ) → number ≤ highest → AreAbove number numbers → RiseTo (Some highest) numbers
    → RiseTo (Some highest) (cond b (number ∷ numbers) numbers)
less_by true highest number numbers below above h = (below, above, h)
less_by false highest number numbers below above h = h

rise_less : (highest : Option ℕ) (test : ℕ → Bool) (numbers : List ℕ) → RiseTo highest numbers → RiseTo highest (filter test numbers)
rise_less highest test [] h = tt
rise_less None test (number ∷ numbers) h = absurd h
rise_less (Some highest) test (number ∷ numbers) h =
    less_by (test number) highest number (filter test numbers) h.0 (above_less number test numbers h.1) (rise_less (Some highest) test numbers h.2)

rise_begun : (b : Bool) (number : ℕ) (s : ServerState) → is_above s.highest number ≡ b → RiseTo s.highest (conn_numbers s)
    → RiseTo (cond b (Some number) s.highest) (cond b (conn_numbers s ++ number ∷ []) (conn_numbers s))
rise_begun true number s test h = rise_more s.highest number (conn_numbers s) test h
rise_begun false number s test h = h

rise_step : (happening : Happening) (s : ServerState) → RiseTo s.highest (conn_numbers s) → RiseTo (highest_after happening s) (numbers_after happening s)
rise_step (Opens number) s h = rise_begun (is_above s.highest number) number s refl h
rise_step (Closes number) s h = rise_less s.highest (λ other. not (other == number)) (conn_numbers s) h
rise_step (Hears conn heard_now) s h = h
rise_step (Feeds change) s h = h
rise_step (Ticks ms) s h = h
rise_step (Levels level) s h = h

pub rise_after : (happening : Happening) (s : ServerState) → RiseTo s.highest (conn_numbers s) → RiseTo (after happening s).state.highest (conn_numbers (after happening s).state)
rise_after happening s h =
    subst (λ highest. RiseTo highest (conn_numbers (after happening s).state)) (sym (highest_is happening s))
    (subst (RiseTo (highest_after happening s)) (sym (numbers_are happening s)) (rise_step happening s h))

none_yet : (config : ServerConfig) (current : List Change) → RiseTo (state_after [] (new_server config current)).highest (conn_numbers (state_after [] (new_server config current)))
unfolding state_after
none_yet config current = tt

pub numbers_rise : (config : ServerConfig) (current : List Change) (happenings : List Happening)
    → RiseTo (state_after happenings (new_server config current)).highest (conn_numbers (state_after happenings (new_server config current)))
numbers_rise config current [] = none_yet config current
numbers_rise config current (happening ∷ earlier) =
    subst (λ (t : ServerState). RiseTo t.highest (conn_numbers t)) (sym (state_is happening earlier (new_server config current)))
    (rise_after happening (state_after earlier (new_server config current)) (numbers_rise config current earlier))
