-- An end that comes to stand among the others, and one that doesn't any more.
use Rattle.std.proofs.Common.{◌≡◌, ℕ, ◌==◌, ◌<◌, nat_lt, Bool, true, false, cond, List, [], ◌∷◌, map, is_some, Option, Some, None, refl, sym, ap, subst, ◌∙◌, arith}
use Rattle.std.proofs.lemmas.Bool.Decides.{nat_tests}
use Rattle.std.specs.Cmp.{unsigned_tied}
use Rattle.std.specs.Ordering.{match_ordering, nat_cmp}
use Rattle.std.specs.BTreeMap.{insert_entry, is_at}
use Rattle.std.specs.Map.{keys_of, remove_entry}
use Rattle.ua_channel.specs.State.{ChannelState}
use Rattle.ua_channel.specs.Sharing.{Ends, end_at}
use Rattle.server_rules.specs.declared.conn.Conn.{Conn}
use Rattle.server_rules.specs.State.{conn_at, is_conn}
use Rattle.server_laws.specs.Numbers.{AreAbove, RiseTo}

-- ---- what is found of a list

at_first : (k : ℕ) (e : ℕ × ChannelState) (es : Ends) → end_at k (e ∷ es) ≡ cond (k == e.0) (Some e.1) (end_at k es)
at_first k e es = ap (λ b. cond b (Some e.1) (end_at k es)) (unsigned_tied k e.0)

-- ---- one more

-- where the number stands to that of the first end
inserted_first : (lower same : Bool) (number : ℕ) (c : ChannelState) (e : ℕ × ChannelState) (es rest : Ends)
    → nat_lt number e.0 ≡ lower → (number == e.0) ≡ same
    → match_ordering (nat_cmp number e.0) ((number, c) ∷ e ∷ es) ((e.0, c) ∷ es) (e ∷ rest)
    ≡ cond lower ((number, c) ∷ e ∷ es) (cond same ((e.0, c) ∷ es) (e ∷ rest))
inserted_first true same number c e es rest low is = rw (low) refl
inserted_first false true number c e es rest low is = rw (low, is) refl
inserted_first false false number c e es rest low is = rw (low, is) refl

same_key : (number other k : ℕ) → (number == other) ≡ true → (k == other) ≡ (k == number)
same_key number other k is =
    let same : number ≡ other = grind (arith, nat_tests) in ap (λ n. k == n) (sym same)

same_here : (number k : ℕ) → (number == k) ≡ true → (k == number) ≡ true
same_here number k is = grind (arith, nat_tests)

lower_apart : (number other k : ℕ) → nat_lt number other ≡ true → (k == number) ≡ true → (k == other) ≡ false
lower_apart number other k low is = grind (arith, nat_tests)

other_apart : (number other k : ℕ) → (number == other) ≡ false → (k == number) ≡ true → (k == other) ≡ false
other_apart number other k differ is = grind (arith, nat_tests)

twice : (b : Bool) (o p q : Option ChannelState) → cond b o (cond b p q) ≡ cond b o q
twice true o p q = refl
twice false o p q = refl

passed : (b : Bool) (number other k : ℕ) (o p q : Option ChannelState) → (number == other) ≡ false → (k == number) ≡ b
    → cond (k == other) o (cond b p q) ≡ cond b p (cond (k == other) o q)
passed true number other k o p q differ is = ap (λ b. cond b o p) (other_apart number other k differ is)
passed false number other k o p q differ is = refl

inserted_by : (lower same : Bool) (number k : ℕ) (c : ChannelState) (e : ℕ × ChannelState) (es rest : Ends)
    → nat_lt number e.0 ≡ lower → (number == e.0) ≡ same → end_at k rest ≡ cond (k == number) (Some c) (end_at k es)
    → end_at k (cond lower ((number, c) ∷ e ∷ es) (cond same ((e.0, c) ∷ es) (e ∷ rest))) ≡ cond (k == number) (Some c) (end_at k (e ∷ es))
inserted_by true same number k c e es rest low is later = at_first k (number, c) (e ∷ es)
inserted_by false true number k c e es rest low is later =
    at_first k (e.0, c) es
    ∙ ap (λ b. cond b (Some c) (end_at k es)) (same_key number e.0 k is)
    ∙ sym (twice (k == number) (Some c) (Some e.1) (end_at k es))
    ∙ ap (λ b. cond (k == number) (Some c) (cond b (Some e.1) (end_at k es))) (sym (same_key number e.0 k is))
    ∙ ap (cond (k == number) (Some c)) (sym (at_first k e es))
inserted_by false false number k c e es rest low is later =
    at_first k e rest
    ∙ ap (cond (k == e.0) (Some e.1)) later
    ∙ passed (k == number) number e.0 k (Some e.1) (Some c) (end_at k es) is refl
    ∙ ap (cond (k == number) (Some c)) (sym (at_first k e es))

pub inserted_at : (number k : ℕ) (c : ChannelState) (ends : Ends)
    → end_at k (insert_entry nat_cmp ends number c) ≡ cond (k == number) (Some c) (end_at k ends)
inserted_at number k c [] = at_first k (number, c) []
inserted_at number k c (e ∷ es) =
    ap (end_at k) (inserted_first (nat_lt number e.0) (number == e.0) number c e es (insert_entry nat_cmp es number c) refl refl)
    ∙ inserted_by (nat_lt number e.0) (number == e.0) number k c e es (insert_entry nat_cmp es number c) refl refl (inserted_at number k c es)

-- ---- one less

removed_by : (b : Bool) (number k : ℕ) (e : ℕ × ChannelState) (es rest : Ends) → (number == e.0) ≡ b → (k == number) ≡ false
    → end_at k rest ≡ end_at k es → end_at k (cond b es (e ∷ rest)) ≡ end_at k (e ∷ es)
removed_by true number k e es rest is differ later =
    sym (at_first k e es ∙ ap (λ b. cond b (Some e.1) (end_at k es)) (same_key number e.0 k is ∙ differ))
removed_by false number k e es rest is differ later =
    at_first k e rest ∙ ap (cond (k == e.0) (Some e.1)) later ∙ sym (at_first k e es)

pub removed_apart : (number k : ℕ) (ends : Ends) → (k == number) ≡ false
    → end_at k (remove_entry (is_at (nat_cmp number)) ends) ≡ end_at k ends
removed_apart number k [] differ = refl
removed_apart number k (e ∷ es) differ =
    ap (λ b. end_at k (cond b es (e ∷ remove_entry (is_at (nat_cmp number)) es))) (unsigned_tied number e.0)
    ∙ removed_by (number == e.0) number k e es (remove_entry (is_at (nat_cmp number)) es) refl differ (removed_apart number k es differ)

above_apart : (number other : ℕ) → number < other → (number == other) ≡ false
above_apart number other above = grind (arith, nat_tests)

none_above : (number : ℕ) (es : Ends) → AreAbove number (keys_of es) → end_at number es ≡ None
none_above number [] h = refl
none_above number (e ∷ es) h =
    at_first number e es ∙ ap (λ b. cond b (Some e.1) (end_at number es)) (above_apart number e.0 h.0) ∙ none_above number es h.1

gone_by : (b : Bool) (number : ℕ) (e : ℕ × ChannelState) (es rest : Ends) → (number == e.0) ≡ b → AreAbove e.0 (keys_of es)
    → end_at number rest ≡ None → end_at number (cond b es (e ∷ rest)) ≡ None
gone_by true number e es rest is above later =
    let same : e.0 ≡ number = grind (arith, nat_tests) in
    none_above number es (subst (λ n. AreAbove n (keys_of es)) same above)
gone_by false number e es rest is above later =
    at_first number e rest ∙ ap (λ b. cond b (Some e.1) (end_at number rest)) is ∙ later

-- numbers that rise are apart
pub removed_gone : (highest : Option ℕ) (number : ℕ) (ends : Ends) → RiseTo highest (keys_of ends)
    → end_at number (remove_entry (is_at (nat_cmp number)) ends) ≡ None
removed_gone highest number [] h = refl
removed_gone None number (e ∷ es) h = absurd h
removed_gone (Some highest) number (e ∷ es) h =
    ap (λ b. end_at number (cond b es (e ∷ remove_entry (is_at (nat_cmp number)) es))) (unsigned_tied number e.0)
    ∙ gone_by (number == e.0) number e es (remove_entry (is_at (nat_cmp number)) es) refl h.1
    (removed_gone (Some highest) number es h.2)

-- ---- the connection of an end

there_by : (b : Bool) (number : ℕ) (e : ℕ × ChannelState) (x : Conn) (found : Option ChannelState) (rest : Option Conn)
    → (number == e.0) ≡ b → e.0 ≡ x.number → is_some found ≡ is_some rest
    → is_some (cond b (Some e.1) found) ≡ is_some (cond (is_conn number x) (Some x) rest)
there_by true number e x found rest test same h =
    let own : (x.number == number) ≡ true = grind (arith, nat_tests) in sym (ap (λ b. is_some (cond b (Some x) rest)) own)
there_by false number e x found rest test same h =
    let own : (x.number == number) ≡ false = grind (arith, nat_tests) in h ∙ sym (ap (λ b. is_some (cond b (Some x) rest)) own)

there : (number : ℕ) (es : Ends) (conns : List Conn) → keys_of es ≡ map (λ (conn : Conn). conn.number) conns
    → is_some (end_at number es) ≡ is_some (conn_at number conns)
there number [] [] same = refl
there number [] (x ∷ conns) same = absurd cc
there number (e ∷ es) [] same = absurd cc
there number (e ∷ es) (x ∷ conns) same =
    let head : e.0 ≡ x.number = cc in
    let tail : keys_of es ≡ map (λ (conn : Conn). conn.number) conns = cc in
    ap is_some (at_first number e es)
    ∙ there_by (number == e.0) number e x (end_at number es) (conn_at number conns) refl head (there number es conns tail)

none_is : (o : Option Conn) → is_some o ≡ false → o ≡ None
none_is None is = refl
none_is (Some x) is = absurd cc

-- where no end stands there is no connection
pub none_there : (number : ℕ) (es : Ends) (conns : List Conn) → keys_of es ≡ map (λ (conn : Conn). conn.number) conns
    → end_at number es ≡ None → conn_at number conns ≡ None
none_there number es conns same none =
    none_is (conn_at number conns) (sym (there number es conns same) ∙ ap (λ (o : Option ChannelState). is_some o) none)
