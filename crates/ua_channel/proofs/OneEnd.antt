-- The end of one connection among those of all.
use Rattle.std.proofs.Common.{◌≡◌, ℕ, ◌==◌, Bool, true, false, cond, List, [], ◌∷◌, Option, Some, None, is_some, unwrap_or, refl, sym, ap, ◌∙◌, arith}
use Rattle.std.proofs.lemmas.Bool.Decides.{nat_tests}
use Rattle.std.proofs.lemmas.Map.Steps.{set_value_same}
use Rattle.std.specs.Cmp.{unsigned_tied}
use Rattle.std.specs.Ordering.{nat_cmp}
use Rattle.std.specs.BTreeMap.{is_at}
use Rattle.std.specs.Map.{lookup, set_value}
use Rattle.ua_channel.specs.declared.wire.Order.{Order}
use Rattle.ua_channel.specs.State.{ChannelState, shut}
use Rattle.ua_channel.specs.Orders.{obeyed}
use Rattle.ua_channel.specs.Sharing.{Ends, emptied_by, end_at, obeyed_at, obeyed_by, others, shut_by, with_end}
use Rattle.ua_channel.proofs.Sharings.{set_twice}

-- ---- an end that is set is found

set_found_by : (b : Bool) (t : ℕ → Bool) (e : ℕ × ChannelState) (es : Ends) (w : ChannelState) → t e.0 ≡ b
    → (is_some (lookup t es) ≡ true → lookup t (set_value t es w) ≡ Some w) → is_some (lookup t (e ∷ es)) ≡ true
    → lookup t (set_value t (e ∷ es) w) ≡ Some w
set_found_by true t e es w h found is =
    ap (λ b. lookup t (cond b ((e.0, w) ∷ es) (e ∷ set_value t es w))) h ∙ ap (λ b. cond b (Some w) (lookup t es)) h
set_found_by false t e es w h found is =
    ap (λ b. lookup t (cond b ((e.0, w) ∷ es) (e ∷ set_value t es w))) h
    ∙ ap (λ b. cond b (Some e.1) (lookup t (set_value t es w))) h
    ∙ found (sym (ap (λ b. is_some (cond b (Some e.1) (lookup t es))) h) ∙ is)

set_found : (t : ℕ → Bool) (es : Ends) (w : ChannelState) → is_some (lookup t es) ≡ true → lookup t (set_value t es w) ≡ Some w
set_found t [] w is = absurd cc
set_found t (e ∷ es) w is = set_found_by (t e.0) t e es w refl (set_found t es w) is

pub end_set : (conn : ℕ) (c former : ChannelState) (ends : Ends) → end_at conn ends ≡ Some former → end_at conn (with_end conn c ends) ≡ Some c
end_set conn c former ends e = set_found (is_at (nat_cmp conn)) ends c (ap (λ (o : Option ChannelState). is_some o) e)

-- ---- another connection's end stays

set_apart_by : (b : Bool) (t u : ℕ → Bool) (e : ℕ × ChannelState) (es : Ends) (w : ChannelState) → ((k : ℕ) → u k ≡ true → t k ≡ false)
    → u e.0 ≡ b → lookup t (set_value u es w) ≡ lookup t es → lookup t (set_value u (e ∷ es) w) ≡ lookup t (e ∷ es)
set_apart_by true t u e es w apart h same =
    ap (λ b. lookup t (cond b ((e.0, w) ∷ es) (e ∷ set_value u es w))) h
    ∙ ap (λ b. cond b (Some w) (lookup t es)) (apart e.0 h)
    ∙ sym (ap (λ b. cond b (Some e.1) (lookup t es)) (apart e.0 h))
set_apart_by false t u e es w apart h same =
    ap (λ b. lookup t (cond b ((e.0, w) ∷ es) (e ∷ set_value u es w))) h
    ∙ ap (λ (o : Option ChannelState). cond (t e.0) (Some e.1) o) same

set_apart : (t u : ℕ → Bool) (es : Ends) (w : ChannelState) → ((k : ℕ) → u k ≡ true → t k ≡ false)
    → lookup t (set_value u es w) ≡ lookup t es
set_apart t u [] w apart = refl
set_apart t u (e ∷ es) w apart = set_apart_by (u e.0) t u e es w apart refl (set_apart t u es w apart)

numbers_apart : (conn number k : ℕ) → (number == conn) ≡ false → (number == k) ≡ true → (conn == k) ≡ false
numbers_apart conn number k differ same = grind (arith, nat_tests)

tests_apart : (conn number k : ℕ) → (number == conn) ≡ false → is_at (nat_cmp number) k ≡ true → is_at (nat_cmp conn) k ≡ false
tests_apart conn number k differ same =
    unsigned_tied conn k ∙ numbers_apart conn number k differ (sym (unsigned_tied number k) ∙ same)

obeyed_apart_by : (found : Option ChannelState) (conn number : ℕ) (o : Order) (ends : Ends) → (number == conn) ≡ false
    → end_at conn (obeyed_by found number o ends) ≡ end_at conn ends
obeyed_apart_by None conn number o ends differ = refl
obeyed_apart_by (Some c) conn number o ends differ =
    set_apart (is_at (nat_cmp conn)) (is_at (nat_cmp number)) ends (obeyed o c) (λ k same. tests_apart conn number k differ same)

-- ---- what is ordered of others leaves an end as it is

first_apart : (b : Bool) (conn : ℕ) (o : ℕ × Order) (ends : Ends) → (o.0 == conn) ≡ b
    → end_at conn (cond b ends (obeyed_at o.0 o.1 ends)) ≡ end_at conn ends
first_apart true conn o ends e = refl
first_apart false conn o ends e = obeyed_apart_by (end_at o.0 ends) conn o.0 o.1 ends e

pub others_apart : (conn : ℕ) (orders : List (ℕ × Order)) (ends : Ends) → end_at conn (others conn orders ends) ≡ end_at conn ends
others_apart conn [] ends = refl
others_apart conn (o ∷ orders) ends =
    others_apart conn orders (cond (o.0 == conn) ends (obeyed_at o.0 o.1 ends)) ∙ first_apart (o.0 == conn) conn o ends refl

-- ---- an end that is taken out and put back

-- what it was in between is forgotten
pub back_again : (conn : ℕ) (c blank : ChannelState) (ends : Ends) → end_at conn ends ≡ Some c
    → with_end conn c (with_end conn blank ends) ≡ ends
back_again conn c blank ends e =
    set_twice (is_at (nat_cmp conn)) ends blank c ∙ set_value_same (is_at (nat_cmp conn)) ends c e

emptied_found : (o : Option ChannelState) (conn : ℕ) (ends : Ends) (blank : ChannelState) → is_some o ≡ true
    → with_end conn (record (unwrap_or o blank) { out = [] }) (with_end conn blank ends) ≡ emptied_by o conn ends
emptied_found None conn ends blank is = absurd cc
emptied_found (Some c) conn ends blank is = set_twice (is_at (nat_cmp conn)) ends blank (record c { out = [] })

pub emptied_there : (conn : ℕ) (ends : Ends) (blank : ChannelState) → is_some (end_at conn ends) ≡ true
    → with_end conn (record (unwrap_or (end_at conn ends) blank) { out = [] }) (with_end conn blank ends)
    ≡ emptied_by (end_at conn ends) conn ends
emptied_there conn ends blank is = emptied_found (end_at conn ends) conn ends blank is

shut_found : (o : Option ChannelState) (conn : ℕ) (ends : Ends) (blank : ChannelState) → is_some o ≡ true
    → with_end conn (shut (unwrap_or o blank)) (with_end conn blank ends) ≡ shut_by o conn ends
shut_found None conn ends blank is = absurd cc
shut_found (Some c) conn ends blank is = set_twice (is_at (nat_cmp conn)) ends blank (shut c)

pub shut_there : (conn : ℕ) (ends : Ends) (blank : ChannelState) → is_some (end_at conn ends) ≡ true
    → with_end conn (shut (unwrap_or (end_at conn ends) blank)) (with_end conn blank ends)
    ≡ shut_by (end_at conn ends) conn ends
shut_there conn ends blank is = shut_found (end_at conn ends) conn ends blank is
