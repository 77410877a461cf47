-- A CLO ends a connection: it puts nothing, and nothing is heard there any more.
use Rattle.std.proofs.Common.{◌≡◌, ◌≤◌, ℕ, ◌==◌, List, [], ◌∷◌, Bool, true, false, cond, nat_lt, map, Option, Some, None, refl, sym, ap, ◌∙◌, subst, arith}
use Rattle.std.proofs.lemmas.Bool.Decides.{nat_tests}
use Rattle.ua_channel.specs.declared.heard.Heard.TheVariants as heard_as
use Rattle.ua_channel.specs.State.{is_deaf}
use Rattle.server_rules.specs.declared.conn.Conn.{Conn}
use Rattle.server_rules.specs.State.{ServerState, conn_at, is_conn, renewed_conn}
use Rattle.server_rules.specs.Said.{Did, nothing}
use Rattle.server_rules.specs.Answering.{deafened}
use Rattle.server_rules.specs.Connecting.{closing, hears, hears_by, is_above, opened, with_new_conn}
use Rattle.server_rules.specs.Step.{Closes, Feeds, Happening, Hears, Levels, Opens, Ticks, after, ear_of, ears, heard}
use Rattle.server_laws.specs.Numbers.{RiseTo, conn_numbers, highest_after}
use Rattle.server_keeps.specs.Lawful.{OpensOther}

-- ---- a connection that is there was opened

opened_number : (highest number conn : ℕ) → number ≤ highest → number ≡ conn → nat_lt highest conn ≡ false
opened_number highest number conn below same = grind (arith, nat_tests)

there_by : (b : Bool) (highest conn : ℕ) (x : Conn) (rest : Option Conn) (c : Conn) → (x.number == conn) ≡ b → x.number ≤ highest
    → cond b (Some x) rest ≡ Some c → (rest ≡ Some c → nat_lt highest conn ≡ false) → nat_lt highest conn ≡ false
there_by true highest conn x rest c test below is on = opened_number highest x.number conn below (grind (arith, nat_tests))
there_by false highest conn x rest c test below is on = on is

was_opened : (highest : Option ℕ) (conn : ℕ) (conns : List Conn) (c : Conn) → RiseTo highest (map (λ (one : Conn). one.number) conns)
    → conn_at conn conns ≡ Some c → is_above highest conn ≡ false
was_opened highest conn [] c rise is = absurd cc
was_opened None conn (x ∷ conns) c rise is = absurd rise
was_opened (Some highest) conn (x ∷ conns) c rise is =
    there_by (is_conn conn x) highest conn x (conn_at conn conns) c refl rise.0 is (was_opened (Some highest) conn conns c rise.2)

-- ---- a number that was opened isn't opened again

higher : (highest number conn : ℕ) → nat_lt highest number ≡ true → nat_lt highest conn ≡ false → nat_lt number conn ≡ false
higher highest number conn above under = grind (arith, nat_tests)

opens_above : (b : Bool) (highest : Option ℕ) (number conn : ℕ) → is_above highest number ≡ b → is_above highest conn ≡ false
    → is_above (cond b (Some number) highest) conn ≡ false
opens_above true None number conn test under = absurd cc
opens_above true (Some highest) number conn test under = higher highest number conn test under
opens_above false highest number conn test under = under

above_stays : (conn : ℕ) (happening : Happening) (s : ServerState) → is_above s.highest conn ≡ false → is_above (highest_after happening s) conn ≡ false
above_stays conn (Opens number) s under = opens_above (is_above s.highest number) s.highest number conn refl under
above_stays conn (Hears number h) s under = under
above_stays conn (Closes number) s under = under
above_stays conn (Feeds change) s under = under
above_stays conn (Ticks ms) s under = under
above_stays conn (Levels level) s under = under

-- ---- a connection that is over stays so

-- it was opened, and is deaf
pub record IsOver (conn : ℕ) (s : ServerState) : Type 0 where
  pub deaf : is_deaf (ears conn s) ≡ true
  pub under : is_above s.highest conn ≡ false

-- what other crates say
abbrev pub StaysDeaf : Type 0
StaysDeaf = (conn : ℕ) (happening : Happening) (s : ServerState) → OpensOther conn happening → is_deaf (ears conn s) ≡ true
    → is_deaf (ears conn (after happening s).state) ≡ true

abbrev pub HighestIs : Type 0
HighestIs = (happening : Happening) (s : ServerState) → (after happening s).state.highest ≡ highest_after happening s

not_again : (b : Bool) (conn : ℕ) (s : ServerState) → b ≡ false → is_deaf (ears conn s) ≡ true
    → is_deaf (ears conn (cond b (nothing (with_new_conn conn s)) (nothing s)).state) ≡ true
not_again true conn s is deaf = absurd cc
not_again false conn s is deaf = deaf

own_opened : (conn : ℕ) (s : ServerState) → IsOver conn s → is_deaf (ears conn (after (Opens conn) s).state) ≡ true
unfolding opened
own_opened conn s over = not_again (is_above s.highest conn) conn s over.under over.deaf

opened_by : StaysDeaf → (b : Bool) (conn number : ℕ) (s : ServerState) → (number == conn) ≡ b → IsOver conn s
    → is_deaf (ears conn (after (Opens number) s).state) ≡ true
opened_by deaf true conn number s test over =
    let same : number ≡ conn = grind (arith, nat_tests) in
    subst (λ (n : ℕ). is_deaf (ears conn (after (Opens n) s).state) ≡ true) (sym same) (own_opened conn s over)
opened_by deaf false conn number s test over = deaf conn (Opens number) s (λ same. absurd (grind (arith, nat_tests))) over.deaf

deaf_stays : StaysDeaf → (conn : ℕ) (happening : Happening) (s : ServerState) → IsOver conn s → is_deaf (ears conn (after happening s).state) ≡ true
deaf_stays deaf conn (Opens number) s over = opened_by deaf (number == conn) conn number s refl over
deaf_stays deaf conn (Hears number h) s over = deaf conn (Hears number h) s tt over.deaf
deaf_stays deaf conn (Closes number) s over = deaf conn (Closes number) s tt over.deaf
deaf_stays deaf conn (Feeds change) s over = deaf conn (Feeds change) s tt over.deaf
deaf_stays deaf conn (Ticks ms) s over = deaf conn (Ticks ms) s tt over.deaf
deaf_stays deaf conn (Levels level) s over = deaf conn (Levels level) s tt over.deaf

pub over_stays : StaysDeaf → HighestIs → (conn : ℕ) (happening : Happening) (s : ServerState) → IsOver conn s → IsOver conn (after happening s).state
over_stays deaf highest conn happening s over =
    record {
      deaf = deaf_stays deaf conn happening s over;
      under = ap (λ (h : Option ℕ). is_above h conn) (highest happening s) ∙ above_stays conn happening s over.under;
    }

-- ---- a CLO

found_by : (b c : Bool) (new x old : Conn) (rest later : Option Conn) → (x.number == new.number) ≡ b → ((cond b new x).number == new.number) ≡ c
    → cond b (Some x) rest ≡ Some old → (rest ≡ Some old → later ≡ Some new) → cond c (Some (cond b new x)) later ≡ Some new
found_by true true new x old rest later test same is on = refl
found_by true false new x old rest later test same is on = absurd (grind (arith, nat_tests))
found_by false true new x old rest later test same is on = absurd cc
found_by false false new x old rest later test same is on = on is

renewed_there : (new old : Conn) (conns : List Conn) → conn_at new.number conns ≡ Some old → conn_at new.number (map (renewed_conn new) conns) ≡ Some new
renewed_there new old [] is = absurd cc
renewed_there new old (x ∷ conns) is =
    found_by (is_conn new.number x) (is_conn new.number (renewed_conn new x)) new x old (conn_at new.number conns)
    (conn_at new.number (map (renewed_conn new) conns)) refl refl is (renewed_there new old conns)

own_by : (b : Bool) (conn : ℕ) (x c : Conn) (rest : Option Conn) → (x.number == conn) ≡ b → cond b (Some x) rest ≡ Some c
    → (rest ≡ Some c → c.number ≡ conn) → c.number ≡ conn
own_by true conn x c rest test is on =
    let same : x ≡ c = cc in
    let number : x.number ≡ conn = grind (arith, nat_tests) in
    sym (ap (λ (one : Conn). one.number) same) ∙ number
own_by false conn x c rest test is on = on is

own_number : (conn : ℕ) (conns : List Conn) (c : Conn) → conn_at conn conns ≡ Some c → c.number ≡ conn
own_number conn [] c is = absurd cc
own_number conn (x ∷ conns) c is = own_by (is_conn conn x) conn x c (conn_at conn conns) refl is (own_number conn conns c)

-- it puts nothing, and its connection is over
pub record IsClosed (conn : ℕ) (did : Did) : Type 0 where
  pub none : did.said ≡ []
  pub deaf : is_deaf (ears conn did.state) ≡ true

closing_ends : (conn : ℕ) (c : Conn) (s : ServerState) → conn_at conn s.conns ≡ Some c → IsClosed conn (closing c s)
unfolding closing
closing_ends conn c s is =
    let own : c.number ≡ conn = own_number conn s.conns c is in
    let there : conn_at c.number s.conns ≡ Some c = subst (λ (n : ℕ). conn_at n s.conns ≡ Some c) (sym own) is in
    let found : conn_at c.number (map (renewed_conn (deafened c)) s.conns) ≡ Some (deafened c) = renewed_there (deafened c) c s.conns there in
    record {
      none = refl;
      deaf = ap (λ (n : ℕ). is_deaf (ear_of (conn_at n (map (renewed_conn (deafened c)) s.conns)))) (sym own)
          ∙ ap (λ (o : Option Conn). is_deaf (ear_of o)) found;
    }

ends_by : (conn : ℕ) (found : Option Conn) (s : ServerState) → conn_at conn s.conns ≡ found → is_deaf (ear_of found) ≡ false
    → IsClosed conn (hears_by found heard_as.Close s)
ends_by conn None s is hears = absurd cc
ends_by conn (Some c) s is hears = closing_ends conn c s is

closed_by : (b : Bool) (conn : ℕ) (s : ServerState) (did : Did) → b ≡ false → IsClosed conn did → IsClosed conn (cond b (nothing s) did)
closed_by true conn s did is h = absurd cc
closed_by false conn s did is h = h

pub closes : (conn : ℕ) (s : ServerState) → is_deaf (ears conn s) ≡ false → IsClosed conn (after (Hears conn heard_as.Close) s)
unfolding heard hears
closes conn s hears =
    closed_by (is_deaf (ears conn s)) conn s (hears_by (conn_at conn s.conns) heard_as.Close s) hears (ends_by conn (conn_at conn s.conns) s refl hears)

under_by : (conn : ℕ) (found : Option Conn) (s : ServerState) → conn_at conn s.conns ≡ found → is_deaf (ear_of found) ≡ false
    → RiseTo s.highest (conn_numbers s) → is_above s.highest conn ≡ false
under_by conn None s is hears rise = absurd cc
under_by conn (Some c) s is hears rise = was_opened s.highest conn s.conns c rise is

-- so it is over
pub over_then : HighestIs → (conn : ℕ) (s : ServerState) → is_deaf (ears conn s) ≡ false → RiseTo s.highest (conn_numbers s)
    → IsOver conn (after (Hears conn heard_as.Close) s).state
over_then highest conn s hears rise =
    record {
      deaf = (closes conn s hears).deaf;
      under = ap (λ (h : Option ℕ). is_above h conn) (highest (Hears conn heard_as.Close) s) ∙ under_by conn (conn_at conn s.conns) s refl hears rise;
    }
