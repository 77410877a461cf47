-- The end of one connection among those of all.
use Rattle.std.proofs.Common.{◌≡◌, ℕ, ◌==◌, Bool, true, false, cond, List, [], ◌∷◌, ◌++◌, Option, Some, None, is_some, refl, sym, ap, subst, ◌∙◌, arith}
use Rattle.std.proofs.lemmas.Bool.Decides.{nat_tests}
use Rattle.std.specs.Cmp.{unsigned_tied}
use Rattle.std.specs.Ordering.{nat_cmp}
use Rattle.std.specs.BTreeMap.{is_at}
use Rattle.std.specs.Map.{lookup, set_value}
use Rattle.ua_channel.specs.declared.wire.Order.{Order}
use Rattle.ua_channel.specs.State.{ChannelState}
use Rattle.ua_channel.specs.Orders.{obeyed, obeyed_all}
use Rattle.ua_channel.specs.Sharing.{Ends, end_at, obeyed_at, obeyed_by, obeyed_each, others, own, with_end}
use Rattle.ua_channel.proofs.OneEnd.{end_set}

-- ---- numbers

pub same_number : (n : ℕ) → (n == n) ≡ true
same_number n = grind (arith, nat_tests)

pub number_is : (n k : ℕ) → (n == k) ≡ true → n ≡ k
number_is n k e = grind (arith, nat_tests)

pub other_way : (n k : ℕ) → (n == k) ≡ false → (k == n) ≡ false
other_way n k e = grind (arith, nat_tests)

apart_from : (conn number k : ℕ) → (number == conn) ≡ false → (number == k) ≡ true → (conn == k) ≡ false
apart_from conn number k differ same = grind (arith, nat_tests)

pub not_both : (number conn k : ℕ) → (number == conn) ≡ true → (k == conn) ≡ false → (number == k) ≡ false
not_both number conn k same differ = grind (arith, nat_tests)

-- ---- an end that is set leaves the others

set_apart_by : (b : Bool) (t u : ℕ → Bool) (e : ℕ × ChannelState) (es : Ends) (w : ChannelState) → ((k : ℕ) → u k ≡ true → t k ≡ false)
    → u e.0 ≡ b → lookup t (set_value u es w) ≡ lookup t es → lookup t (set_value u (e ∷ es) w) ≡ lookup t (e ∷ es)
set_apart_by true t u e es w apart h same =
    ap (λ b. lookup t (cond b ((e.0, w) ∷ es) (e ∷ set_value u es w))) h
    ∙ ap (λ b. cond b (Some w) (lookup t es)) (apart e.0 h)
    ∙ sym (ap (λ b. cond b (Some e.1) (lookup t es)) (apart e.0 h))
set_apart_by false t u e es w apart h same =
    ap (λ b. lookup t (cond b ((e.0, w) ∷ es) (e ∷ set_value u es w))) h
    ∙ ap (λ (o : Option ChannelState). cond (t e.0) (Some e.1) o) same

set_apart : (t u : ℕ → Bool) (es : Ends) (w : ChannelState) → ((k : ℕ) → u k ≡ true → t k ≡ false)
    → lookup t (set_value u es w) ≡ lookup t es
set_apart t u [] w apart = refl
set_apart t u (e ∷ es) w apart = set_apart_by (u e.0) t u e es w apart refl (set_apart t u es w apart)

tests_apart : (conn number k : ℕ) → (number == conn) ≡ false → is_at (nat_cmp number) k ≡ true → is_at (nat_cmp conn) k ≡ false
tests_apart conn number k differ same =
    unsigned_tied conn k ∙ apart_from conn number k differ (sym (unsigned_tied number k) ∙ same)

pub end_apart : (conn number : ℕ) (c : ChannelState) (ends : Ends) → (number == conn) ≡ false
    → end_at conn (with_end number c ends) ≡ end_at conn ends
end_apart conn number c ends differ =
    set_apart (is_at (nat_cmp conn)) (is_at (nat_cmp number)) ends c (λ k same. tests_apart conn number k differ same)

some_is : {A : Type 0} (o : Option A) → is_some o ≡ true → (a : A) × (o ≡ Some a)
some_is None is = absurd cc
some_is (Some a) is = (a, refl)

-- an end that is set is found
pub end_found : (conn : ℕ) (c : ChannelState) (ends : Ends) → is_some (end_at conn ends) ≡ true → end_at conn (with_end conn c ends) ≡ Some c
end_found conn c ends is = let found = some_is (end_at conn ends) is in end_set conn c found.0 ends found.1

-- ---- what an end obeys

abbrev pub obeyed_in : List Order → Option ChannelState → Option ChannelState
obeyed_in orders None = None
obeyed_in orders (Some c) = Some (obeyed_all orders c)

nothing_obeyed : (o : Option ChannelState) → obeyed_in [] o ≡ o
nothing_obeyed None = refl
nothing_obeyed (Some c) = refl

obeyed_more : (o : Order) (orders : List Order) (e : Option ChannelState) → obeyed_in orders (obeyed_in (o ∷ []) e) ≡ obeyed_in (o ∷ orders) e
obeyed_more o orders None = refl
obeyed_more o orders (Some c) = refl

at_same_by : (found : Option ChannelState) (number : ℕ) (o : Order) (ends : Ends) → end_at number ends ≡ found
    → end_at number (obeyed_by found number o ends) ≡ obeyed_in (o ∷ []) found
at_same_by None number o ends e = e
at_same_by (Some c) number o ends e = end_set number (obeyed o c) c ends e

at_same : (number : ℕ) (o : Order) (ends : Ends) → end_at number (obeyed_at number o ends) ≡ obeyed_in (o ∷ []) (end_at number ends)
at_same number o ends = at_same_by (end_at number ends) number o ends refl

at_apart_by : (found : Option ChannelState) (k number : ℕ) (o : Order) (ends : Ends) → (number == k) ≡ false
    → end_at k (obeyed_by found number o ends) ≡ end_at k ends
at_apart_by None k number o ends differ = refl
at_apart_by (Some c) k number o ends differ = end_apart k number (obeyed o c) ends differ

at_apart : (k number : ℕ) (o : Order) (ends : Ends) → (number == k) ≡ false → end_at k (obeyed_at number o ends) ≡ end_at k ends
at_apart k number o ends differ = at_apart_by (end_at number ends) k number o ends differ

one_obeyed : (b : Bool) (k number : ℕ) (o : Order) (rest : List Order) (ends : Ends) → (number == k) ≡ b
    → obeyed_in rest (end_at k (obeyed_at number o ends)) ≡ obeyed_in (cond b (o ∷ []) [] ++ rest) (end_at k ends)
one_obeyed true k number o rest ends e =
    subst (λ n. obeyed_in rest (end_at k (obeyed_at n o ends)) ≡ obeyed_in (o ∷ rest) (end_at k ends)) (sym (number_is number k e))
    (ap (obeyed_in rest) (at_same k o ends) ∙ obeyed_more o rest (end_at k ends))
one_obeyed false k number o rest ends e = ap (obeyed_in rest) (at_apart k number o ends e)

-- each end obeys its own orders
pub each_obeyed : (k : ℕ) (orders : List (ℕ × Order)) (ends : Ends) → end_at k (obeyed_each orders ends) ≡ obeyed_in (own k orders) (end_at k ends)
each_obeyed k [] ends = sym (nothing_obeyed (end_at k ends))
each_obeyed k (o ∷ orders) ends =
    each_obeyed k orders (obeyed_at o.0 o.1 ends) ∙ one_obeyed (o.0 == k) k o.0 o.1 (own k orders) ends refl

other_obeyed : (b : Bool) (conn k : ℕ) (o : ℕ × Order) (rest : List Order) (ends : Ends) → (k == conn) ≡ false → (o.0 == conn) ≡ b
    → obeyed_in rest (end_at k (cond b ends (obeyed_at o.0 o.1 ends))) ≡ obeyed_in (cond (o.0 == k) (o.1 ∷ []) [] ++ rest) (end_at k ends)
other_obeyed true conn k o rest ends differ e =
    ap (λ b. obeyed_in (cond b (o.1 ∷ []) [] ++ rest) (end_at k ends)) (sym (not_both o.0 conn k e differ))
other_obeyed false conn k o rest ends differ e = one_obeyed (o.0 == k) k o.0 o.1 rest ends refl

-- and so does each but that of the connection that is heard
pub others_obeyed : (conn k : ℕ) (orders : List (ℕ × Order)) (ends : Ends) → (k == conn) ≡ false
    → end_at k (others conn orders ends) ≡ obeyed_in (own k orders) (end_at k ends)
others_obeyed conn k [] ends differ = sym (nothing_obeyed (end_at k ends))
others_obeyed conn k (o ∷ orders) ends differ =
    others_obeyed conn k orders (cond (o.0 == conn) ends (obeyed_at o.0 o.1 ends)) differ
    ∙ other_obeyed (o.0 == conn) conn k o (own k orders) ends differ refl
