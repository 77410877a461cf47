-- Ends that are changed at one place, and shut where nothing is heard.
use Rattle.std.proofs.Common.{◌≡◌, ◌≢◌, ◌⊎◌, inl, inr, ℕ, zero, suc, ◌+◌, ◌==◌, Bool, true, false, cond, List, [], ◌∷◌, Option, Some, None, refl, sym, ap, subst, ◌∙◌, arith}
use Rattle.std.proofs.lemmas.Bool.Decides.{nat_tests}
use Rattle.std.specs.Cmp.{unsigned_tied}
use Rattle.std.specs.Ordering.{nat_cmp}
use Rattle.std.specs.BTreeMap.{is_at}
use Rattle.std.specs.Map.{lookup, set_value}
use Rattle.ua_channel.specs.declared.wire.Order.{Order}
use Rattle.ua_channel.specs.declared.wire.Order.TheVariants as order
use Rattle.ua_channel.specs.State.{ChannelState, shut}
use Rattle.ua_channel.specs.Orders.{done, fits_in, obeyed, put_on, undone}
use Rattle.ua_channel.specs.Sharing.{Ends, end_at, obeyed_at, obeyed_by, others, with_end}

-- ---- the first end that passes a test

abbrev pub change : (ℕ → Bool) → (ChannelState → ChannelState) → Ends → Ends
change t f [] = []
change t f (e ∷ es) = cond (t e.0) ((e.0, f e.1) ∷ es) (e ∷ change t f es)

here : (t : ℕ → Bool) (f : ChannelState → ChannelState) (e : ℕ × ChannelState) (es : Ends) → t e.0 ≡ true
    → change t f (e ∷ es) ≡ (e.0, f e.1) ∷ es
here t f e es h = ap (λ b. cond b ((e.0, f e.1) ∷ es) (e ∷ change t f es)) h

past : (t : ℕ → Bool) (f : ChannelState → ChannelState) (e : ℕ × ChannelState) (es : Ends) → t e.0 ≡ false
    → change t f (e ∷ es) ≡ e ∷ change t f es
past t f e es h = ap (λ b. cond b ((e.0, f e.1) ∷ es) (e ∷ change t f es)) h

twice_by : (b : Bool) (t : ℕ → Bool) (f g : ChannelState → ChannelState) (e : ℕ × ChannelState) (es : Ends) → t e.0 ≡ b
    → change t f (change t g es) ≡ change t (λ c. f (g c)) es
    → change t f (change t g (e ∷ es)) ≡ change t (λ c. f (g c)) (e ∷ es)
twice_by true t f g e es h more =
    ap (change t f) (here t g e es h) ∙ here t f (e.0, g e.1) es h ∙ sym (here t (λ c. f (g c)) e es h)
twice_by false t f g e es h more =
    ap (change t f) (past t g e es h) ∙ past t f e (change t g es) h ∙ ap (λ (l : Ends). e ∷ l) more
    ∙ sym (past t (λ c. f (g c)) e es h)

pub change_twice : (t : ℕ → Bool) (f g : ChannelState → ChannelState) (es : Ends)
    → change t f (change t g es) ≡ change t (λ c. f (g c)) es
change_twice t f g [] = refl
change_twice t f g (e ∷ es) = twice_by (t e.0) t f g e es refl (change_twice t f g es)

same_by : (b : Bool) (t : ℕ → Bool) (f g : ChannelState → ChannelState) (e : ℕ × ChannelState) (es : Ends) → t e.0 ≡ b
    → f e.1 ≡ g e.1 → change t f es ≡ change t g es → change t f (e ∷ es) ≡ change t g (e ∷ es)
same_by true t f g e es h one more =
    here t f e es h ∙ ap (λ (c : ChannelState). (e.0, c) ∷ es) one ∙ sym (here t g e es h)
same_by false t f g e es h one more = past t f e es h ∙ ap (λ (l : Ends). e ∷ l) more ∙ sym (past t g e es h)

pub change_same : (t : ℕ → Bool) (f g : ChannelState → ChannelState) (es : Ends) → ((c : ChannelState) → f c ≡ g c)
    → change t f es ≡ change t g es
change_same t f g [] same = refl
change_same t f g (e ∷ es) same = same_by (t e.0) t f g e es refl (same e.1) (change_same t f g es same)

-- no number passes both tests
abbrev Apart : (ℕ → Bool) → (ℕ → Bool) → Type 0
Apart t u = (k : ℕ) → u k ≡ true → t k ≡ false

apart_by : (b d : Bool) (t u : ℕ → Bool) (f g : ChannelState → ChannelState) (e : ℕ × ChannelState) (es : Ends) → Apart t u
    → u e.0 ≡ b → t e.0 ≡ d → change t f (change u g es) ≡ change u g (change t f es)
    → change t f (change u g (e ∷ es)) ≡ change u g (change t f (e ∷ es))
apart_by true d t u f g e es apart h k more =
    ap (change t f) (here u g e es h) ∙ past t f (e.0, g e.1) es (apart e.0 h)
    ∙ sym (here u g e (change t f es) h) ∙ ap (change u g) (sym (past t f e es (apart e.0 h)))
apart_by false true t u f g e es apart h k more =
    ap (change t f) (past u g e es h) ∙ here t f e (change u g es) k
    ∙ sym (past u g (e.0, f e.1) es h) ∙ ap (change u g) (sym (here t f e es k))
apart_by false false t u f g e es apart h k more =
    ap (change t f) (past u g e es h) ∙ past t f e (change u g es) k ∙ ap (λ (l : Ends). e ∷ l) more
    ∙ sym (past u g e (change t f es) h) ∙ ap (change u g) (sym (past t f e es k))

change_apart : (t u : ℕ → Bool) (f g : ChannelState → ChannelState) (es : Ends) → Apart t u
    → change t f (change u g es) ≡ change u g (change t f es)
change_apart t u f g [] apart = refl
change_apart t u f g (e ∷ es) apart =
    apart_by (u e.0) (t e.0) t u f g e es apart refl refl (change_apart t u f g es apart)

found_by : (b : Bool) (t u : ℕ → Bool) (g : ChannelState → ChannelState) (e : ℕ × ChannelState) (es : Ends) → Apart t u
    → u e.0 ≡ b → lookup t (change u g es) ≡ lookup t es → lookup t (change u g (e ∷ es)) ≡ lookup t (e ∷ es)
found_by true t u g e es apart h more =
    ap (λ (l : Ends). lookup t l) (here u g e es h)
    ∙ ap (λ b. cond b (Some (g e.1)) (lookup t es)) (apart e.0 h)
    ∙ sym (ap (λ b. cond b (Some e.1) (lookup t es)) (apart e.0 h))
found_by false t u g e es apart h more =
    ap (λ (l : Ends). lookup t l) (past u g e es h)
    ∙ ap (λ (o : Option ChannelState). cond (t e.0) (Some e.1) o) more

found_apart : (t u : ℕ → Bool) (g : ChannelState → ChannelState) (es : Ends) → Apart t u
    → lookup t (change u g es) ≡ lookup t es
found_apart t u g [] apart = refl
found_apart t u g (e ∷ es) apart = found_by (u e.0) t u g e es apart refl (found_apart t u g es apart)

-- ---- as the definitions say it

abbrev pub changed_by : Option ChannelState → (ℕ → Bool) → (ChannelState → ChannelState) → Ends → Ends
changed_by None t f es = es
changed_by (Some c) t f es = set_value t es (f c)

deeper : (o : Option ChannelState) (t : ℕ → Bool) (f : ChannelState → ChannelState) (e : ℕ × ChannelState) (es : Ends)
    → t e.0 ≡ false → changed_by o t f (e ∷ es) ≡ e ∷ changed_by o t f es
deeper None t f e es h = refl
deeper (Some c) t f e es h = ap (λ b. cond b ((e.0, f c) ∷ es) (e ∷ set_value t es (f c))) h

changed_step : (b : Bool) (t : ℕ → Bool) (f : ChannelState → ChannelState) (e : ℕ × ChannelState) (es : Ends) → t e.0 ≡ b
    → changed_by (lookup t es) t f es ≡ change t f es
    → changed_by (lookup t (e ∷ es)) t f (e ∷ es) ≡ change t f (e ∷ es)
changed_step true t f e es h more =
    ap (λ b. changed_by (cond b (Some e.1) (lookup t es)) t f (e ∷ es)) h
    ∙ ap (λ b. cond b ((e.0, f e.1) ∷ es) (e ∷ set_value t es (f e.1))) h ∙ sym (here t f e es h)
changed_step false t f e es h more =
    ap (λ b. changed_by (cond b (Some e.1) (lookup t es)) t f (e ∷ es)) h
    ∙ deeper (lookup t es) t f e es h ∙ ap (λ (l : Ends). e ∷ l) more ∙ sym (past t f e es h)

pub changed_is : (t : ℕ → Bool) (f : ChannelState → ChannelState) (es : Ends) → changed_by (lookup t es) t f es ≡ change t f es
changed_is t f [] = refl
changed_is t f (e ∷ es) = changed_step (t e.0) t f e es refl (changed_is t f es)

pub set_is : (t : ℕ → Bool) (w : ChannelState) (es : Ends) → set_value t es w ≡ change t (λ c. w) es
set_is t w [] = refl
set_is t w (e ∷ es) = ap (λ (l : Ends). cond (t e.0) ((e.0, w) ∷ es) (e ∷ l)) (set_is t w es)

abbrev pub at : ℕ → ℕ → Bool
at number = is_at (nat_cmp number)

obeyed_as : (o : Option ChannelState) (number : ℕ) (one : Order) (es : Ends)
    → obeyed_by o number one es ≡ changed_by o (at number) (obeyed one) es
obeyed_as None number one es = refl
obeyed_as (Some c) number one es = refl

pub obeyed_is : (number : ℕ) (one : Order) (es : Ends) → obeyed_at number one es ≡ change (at number) (obeyed one) es
obeyed_is number one es = obeyed_as (end_at number es) number one es ∙ changed_is (at number) (obeyed one) es

-- ---- two connections

numbers_apart : (conn number k : ℕ) → number ≢ conn → (number == k) ≡ true → (conn == k) ≡ false
numbers_apart conn number k differ same = by_test (conn == k) refl
  where
    equal : (a b : ℕ) → (a == b) ≡ true → a ≡ b
    equal a b e = grind (arith, nat_tests)

    by_test : (b : Bool) → (conn == k) ≡ b → b ≡ false
    by_test true e = absurd (differ (equal number k same ∙ sym (equal conn k e)))
    by_test false e = refl

at_apart : (conn number : ℕ) → number ≢ conn → Apart (at conn) (at number)
at_apart conn number differ =
    λ k same. unsigned_tied conn k ∙ numbers_apart conn number k differ (sym (unsigned_tied number k) ∙ same)

pub same_or_not : (a b : ℕ) (t : Bool) → (a == b) ≡ t → (a ≡ b) ⊎ (a ≢ b)
same_or_not a b true e = inl (grind (arith, nat_tests))
same_or_not a b false e = inr (grind (arith, nat_tests))

-- ---- an end that is shut

-- what was kept of what came counts for nothing in it
abbrev pub Forgets : (ChannelState → ChannelState) → Type 0
Forgets f = (c : ChannelState) → shut (f (shut c)) ≡ shut (f c)

abbrev pub shut_if : Bool → ℕ → Ends → Ends
shut_if b i es = cond b (change (at i) shut es) es

swap_by : (i j : ℕ) (es : Ends) → (i ≡ j) ⊎ (i ≢ j)
    → change (at i) shut (change (at j) shut es) ≡ change (at j) shut (change (at i) shut es)
swap_by i j es (inl is) =
    subst (λ n. change (at i) shut (change (at n) shut es) ≡ change (at n) shut (change (at i) shut es)) is refl
swap_by i j es (inr differs) = change_apart (at i) (at j) shut shut es (at_apart i j (λ e. differs (sym e)))

swap : (b d : Bool) (i j : ℕ) (es : Ends) → shut_if b i (shut_if d j es) ≡ shut_if d j (shut_if b i es)
swap false d i j es = refl
swap true false i j es = refl
swap true true i j es = swap_by i j es (same_or_not i j _ refl)

shut_again : (i : ℕ) (es : Ends) → change (at i) shut (change (at i) shut es) ≡ change (at i) shut es
shut_again i es = change_twice (at i) shut shut es ∙ change_same (at i) (λ c. shut (shut c)) shut es (λ c. refl)

behind_by : (i j : ℕ) (f : ChannelState → ChannelState) (es : Ends) → Forgets f → (i ≡ j) ⊎ (i ≢ j)
    → change (at i) shut (change (at j) f (change (at i) shut es)) ≡ change (at i) shut (change (at j) f es)
behind_by i j f es forgets (inl is) =
    subst (λ n. change (at i) shut (change (at n) f (change (at i) shut es)) ≡ change (at i) shut (change (at n) f es)) is
    (ap (change (at i) shut) (change_twice (at i) f shut es)
    ∙ change_twice (at i) shut (λ c. f (shut c)) es
    ∙ change_same (at i) (λ c. shut (f (shut c))) (λ c. shut (f c)) es forgets
    ∙ sym (change_twice (at i) shut f es))
behind_by i j f es forgets (inr differs) =
    ap (change (at i) shut) (change_apart (at j) (at i) f shut es (at_apart j i differs))
    ∙ shut_again i (change (at j) f es)

behind : (b : Bool) (i j : ℕ) (f : ChannelState → ChannelState) (es : Ends) → Forgets f
    → shut_if b i (change (at j) f (shut_if b i es)) ≡ shut_if b i (change (at j) f es)
behind false i j f es forgets = refl
behind true i j f es forgets = behind_by i j f es forgets (same_or_not i j _ refl)

more_one : (b d : Bool) (i : ℕ) (es : Ends) → (b ≡ true → d ≡ true) → shut_if d i (shut_if b i es) ≡ shut_if d i es
more_one false d i es implies = refl
more_one true true i es implies = shut_again i es
more_one true false i es implies = let bad : false ≡ true = implies refl in absurd cc

fewer_one : (b d : Bool) (i : ℕ) (es : Ends) → (d ≡ true → b ≡ true) → shut_if d i (shut_if b i es) ≡ shut_if b i es
fewer_one b false i es implies = refl
fewer_one true true i es implies = shut_again i es
fewer_one false true i es implies = let bad : false ≡ true = implies refl in absurd cc

-- ---- all ends that are deaf

-- those of the first so many numbers
abbrev pub shut_all : (ℕ → Bool) → ℕ → Ends → Ends
shut_all d zero es = es
shut_all d (suc count) es = shut_if (d (count + 1)) (count + 1) (shut_all d count es)

abbrev pub Implies : (ℕ → Bool) → (ℕ → Bool) → Type 0
Implies d e = (i : ℕ) → d i ≡ true → e i ≡ true

all_swap : (d : ℕ → Bool) (count : ℕ) (b : Bool) (i : ℕ) (es : Ends)
    → shut_all d count (shut_if b i es) ≡ shut_if b i (shut_all d count es)
all_swap d zero b i es = refl
all_swap d (suc count) b i es =
    ap (shut_if (d (count + 1)) (count + 1)) (all_swap d count b i es)
    ∙ swap (d (count + 1)) b (count + 1) i (shut_all d count es)

pub all_more : (d e : ℕ → Bool) (count : ℕ) (es : Ends) → Implies d e
    → shut_all e count (shut_all d count es) ≡ shut_all e count es
all_more d e zero es implies = refl
all_more d e (suc count) es implies =
    ap (shut_if (e (count + 1)) (count + 1)) (all_swap e count (d (count + 1)) (count + 1) (shut_all d count es))
    ∙ ap (λ (l : Ends). shut_if (e (count + 1)) (count + 1) (shut_if (d (count + 1)) (count + 1) l)) (all_more d e count es implies)
    ∙ more_one (d (count + 1)) (e (count + 1)) (count + 1) (shut_all e count es) (implies (count + 1))

pub all_fewer : (d e : ℕ → Bool) (count : ℕ) (es : Ends) → Implies e d
    → shut_all e count (shut_all d count es) ≡ shut_all d count es
all_fewer d e zero es implies = refl
all_fewer d e (suc count) es implies =
    ap (shut_if (e (count + 1)) (count + 1)) (all_swap e count (d (count + 1)) (count + 1) (shut_all d count es))
    ∙ ap (λ (l : Ends). shut_if (e (count + 1)) (count + 1) (shut_if (d (count + 1)) (count + 1) l)) (all_fewer d e count es implies)
    ∙ fewer_one (d (count + 1)) (e (count + 1)) (count + 1) (shut_all d count es) (implies (count + 1))

pub all_change : (d : ℕ → Bool) (count j : ℕ) (f : ChannelState → ChannelState) (es : Ends) → Forgets f
    → shut_all d count (change (at j) f (shut_all d count es)) ≡ shut_all d count (change (at j) f es)
all_change d zero j f es forgets = refl
all_change d (suc count) j f es forgets =
    let b : Bool = d (count + 1) in
    let i : ℕ = count + 1 in
    sym (all_swap d count b i (change (at j) f (shut_if b i (shut_all d count es))))
    ∙ ap (shut_all d count) (behind b i j f (shut_all d count es) forgets)
    ∙ all_swap d count b i (change (at j) f (shut_all d count es))
    ∙ ap (shut_if b i) (all_change d count j f es forgets)

found_if : (b : Bool) (i j : ℕ) (es : Ends) → (b ≡ true → i ≢ j) → end_at i (shut_if b j es) ≡ end_at i es
found_if false i j es apart = refl
found_if true i j es apart = found_apart (at i) (at j) shut es (at_apart i j (λ e. apart refl (sym e)))

-- an end that isn't deaf is as it was
pub all_found : (d : ℕ → Bool) (count i : ℕ) (es : Ends) → d i ≡ false → end_at i (shut_all d count es) ≡ end_at i es
all_found d zero i es open_is = refl
all_found d (suc count) i es open_is =
    found_if (d (count + 1)) i (count + 1) (shut_all d count es) (λ deaf is. clash (sym open_is ∙ ap d is ∙ deaf))
    ∙ all_found d count i es open_is
  where
    clash : false ≡ true → ⊥
    clash bad = absurd cc

-- ---- orders

done_forgets : (o : Order) (c : ChannelState) → shut (done o (shut c)) ≡ shut (done o c)
unfolding put_on
done_forgets (order.Put w) c = refl
done_forgets (order.Limit l) c = refl
done_forgets (order.Renew channel token) c = refl

undone_forgets : (o : Order) (c : ChannelState) → shut (undone o (shut c)) ≡ shut (undone o c)
undone_forgets (order.Put w) c = refl
undone_forgets (order.Limit l) c = refl
undone_forgets (order.Renew channel token) c = refl

obeyed_by_test : (b : Bool) (o : Order) (c : ChannelState)
    → shut (cond b (done o (shut c)) (undone o (shut c))) ≡ shut (cond b (done o c) (undone o c))
obeyed_by_test true o c = done_forgets o c
obeyed_by_test false o c = undone_forgets o c

obeyed_forgets : (o : Order) → Forgets (obeyed o)
obeyed_forgets o = λ c. obeyed_by_test (fits_in o c.sending) o c

all_obeyed : (d : ℕ → Bool) (count number : ℕ) (o : Order) (es : Ends)
    → shut_all d count (obeyed_at number o (shut_all d count es)) ≡ shut_all d count (obeyed_at number o es)
all_obeyed d count number o es =
    ap (shut_all d count) (obeyed_is number o (shut_all d count es))
    ∙ all_change d count number (obeyed o) es (obeyed_forgets o)
    ∙ ap (shut_all d count) (sym (obeyed_is number o es))

first_others : (b : Bool) (d : ℕ → Bool) (count : ℕ) (o : ℕ × Order) (es : Ends)
    → shut_all d count (cond b (shut_all d count es) (obeyed_at o.0 o.1 (shut_all d count es)))
    ≡ shut_all d count (cond b es (obeyed_at o.0 o.1 es))
first_others true d count o es = all_more d d count es (λ i e. e)
first_others false d count o es = all_obeyed d count o.0 o.1 es

pub all_others : (d : ℕ → Bool) (count conn : ℕ) (orders : List (ℕ × Order)) (es : Ends)
    → shut_all d count (others conn orders (shut_all d count es)) ≡ shut_all d count (others conn orders es)
all_others d count conn [] es = all_more d d count es (λ i e. e)
all_others d count conn (o ∷ orders) es =
    sym (all_others d count conn orders (cond (o.0 == conn) (shut_all d count es) (obeyed_at o.0 o.1 (shut_all d count es))))
    ∙ ap (λ (l : Ends). shut_all d count (others conn orders l)) (first_others (o.0 == conn) d count o es)
    ∙ all_others d count conn orders (cond (o.0 == conn) es (obeyed_at o.0 o.1 es))

pub all_set : (d : ℕ → Bool) (count number : ℕ) (c : ChannelState) (es : Ends)
    → shut_all d count (with_end number c (shut_all d count es)) ≡ shut_all d count (with_end number c es)
all_set d count number c es =
    ap (shut_all d count) (set_is (at number) c (shut_all d count es))
    ∙ all_change d count number (λ x. c) es (λ x. refl)
    ∙ ap (shut_all d count) (sym (set_is (at number) c es))

-- ---- a change that leaves what was kept of what came

one_apart : (b : Bool) (i j : ℕ) (f : ChannelState → ChannelState) (es : Ends) → ((c : ChannelState) → shut (f c) ≡ f (shut c))
    → (i ≡ j) ⊎ (i ≢ j) → shut_if b i (change (at j) f es) ≡ change (at j) f (shut_if b i es)
one_apart false i j f es same place = refl
one_apart true i j f es same (inl is) =
    subst (λ n. change (at i) shut (change (at n) f es) ≡ change (at n) f (change (at i) shut es)) is
    (change_twice (at i) shut f es
    ∙ change_same (at i) (λ c. shut (f c)) (λ c. f (shut c)) es same
    ∙ sym (change_twice (at i) f shut es))
one_apart true i j f es same (inr differs) = change_apart (at i) (at j) shut f es (at_apart i j (λ e. differs (sym e)))

pub all_apart : (d : ℕ → Bool) (count j : ℕ) (f : ChannelState → ChannelState) (es : Ends)
    → ((c : ChannelState) → shut (f c) ≡ f (shut c)) → shut_all d count (change (at j) f es) ≡ change (at j) f (shut_all d count es)
all_apart d zero j f es same = refl
all_apart d (suc count) j f es same =
    ap (shut_if (d (count + 1)) (count + 1)) (all_apart d count j f es same)
    ∙ one_apart (d (count + 1)) (count + 1) j f (shut_all d count es) same (same_or_not (count + 1) j _ refl)

-- ---- ends at which nothing came

abbrev pub AreShut : Ends → Type 0
AreShut [] = Unit {0}
AreShut (e ∷ es) = (shut e.1 ≡ e.1) × AreShut es

shut_by_test : (b : Bool) (e : ℕ × ChannelState) (es more : Ends) → shut e.1 ≡ e.1 → more ≡ es
    → cond b ((e.0, shut e.1) ∷ es) (e ∷ more) ≡ e ∷ es
shut_by_test true e es more one same = ap (λ (c : ChannelState). (e.0, c) ∷ es) one
shut_by_test false e es more one same = ap (λ (l : Ends). e ∷ l) same

change_shut : (t : ℕ → Bool) (es : Ends) → AreShut es → change t shut es ≡ es
change_shut t [] are = refl
change_shut t (e ∷ es) are = shut_by_test (t e.0) e es (change t shut es) are.0 (change_shut t es are.1)

if_shut : (b : Bool) (i : ℕ) (es : Ends) → AreShut es → shut_if b i es ≡ es
if_shut true i es are = change_shut (at i) es are
if_shut false i es are = refl

pub all_shut : (d : ℕ → Bool) (count : ℕ) (es : Ends) → AreShut es → shut_all d count es ≡ es
all_shut d zero es are = refl
all_shut d (suc count) es are =
    ap (shut_if (d (count + 1)) (count + 1)) (all_shut d count es are) ∙ if_shut (d (count + 1)) (count + 1) es are

-- ---- changes in any order

changes_by : (i j : ℕ) (f g : ChannelState → ChannelState) (es : Ends) → ((c : ChannelState) → f (g c) ≡ g (f c))
    → (i ≡ j) ⊎ (i ≢ j) → change (at i) f (change (at j) g es) ≡ change (at j) g (change (at i) f es)
changes_by i j f g es same (inl is) =
    subst (λ n. change (at i) f (change (at n) g es) ≡ change (at n) g (change (at i) f es)) is
    (change_twice (at i) f g es
    ∙ change_same (at i) (λ c. f (g c)) (λ c. g (f c)) es same
    ∙ sym (change_twice (at i) g f es))
changes_by i j f g es same (inr differs) = change_apart (at i) (at j) f g es (at_apart i j (λ e. differs (sym e)))

pub changes_swap : (i j : ℕ) (f g : ChannelState → ChannelState) (es : Ends) → ((c : ChannelState) → f (g c) ≡ g (f c))
    → change (at i) f (change (at j) g es) ≡ change (at j) g (change (at i) f es)
changes_swap i j f g es same = changes_by i j f g es same (same_or_not i j _ refl)

-- those of two connections
pub changes_apart : (i j : ℕ) (f g : ChannelState → ChannelState) (es : Ends) → i ≢ j
    → change (at i) f (change (at j) g es) ≡ change (at j) g (change (at i) f es)
changes_apart i j f g es differs = change_apart (at i) (at j) f g es (at_apart i j (λ e. differs (sym e)))

pub found_elsewhere : (i j : ℕ) (f : ChannelState → ChannelState) (es : Ends) → i ≢ j → end_at i (change (at j) f es) ≡ end_at i es
found_elsewhere i j f es differs = found_apart (at i) (at j) f es (at_apart i j (λ e. differs (sym e)))

abbrev pub mapped : (ChannelState → ChannelState) → Option ChannelState → Option ChannelState
mapped f None = None
mapped f (Some c) = Some (f c)

mapped_by : (b : Bool) (t : ℕ → Bool) (f : ChannelState → ChannelState) (e : ℕ × ChannelState) (es : Ends) → t e.0 ≡ b
    → lookup t (change t f es) ≡ mapped f (lookup t es) → lookup t (change t f (e ∷ es)) ≡ mapped f (lookup t (e ∷ es))
mapped_by true t f e es h more =
    ap (λ (l : Ends). lookup t l) (here t f e es h)
    ∙ ap (λ b. cond b (Some (f e.1)) (lookup t es)) h
    ∙ sym (ap (λ b. mapped f (cond b (Some e.1) (lookup t es))) h)
mapped_by false t f e es h more =
    ap (λ (l : Ends). lookup t l) (past t f e es h)
    ∙ ap (λ b. cond b (Some e.1) (lookup t (change t f es))) h ∙ more
    ∙ sym (ap (λ b. mapped f (cond b (Some e.1) (lookup t es))) h)

pub found_changed : (t : ℕ → Bool) (f : ChannelState → ChannelState) (es : Ends) → lookup t (change t f es) ≡ mapped f (lookup t es)
found_changed t f [] = refl
found_changed t f (e ∷ es) = mapped_by (t e.0) t f e es refl (found_changed t f es)

pub set_changed : (number : ℕ) (c : ChannelState) (f : ChannelState → ChannelState) (es : Ends)
    → with_end number c (change (at number) f es) ≡ with_end number c es
set_changed number c f es =
    set_is (at number) c (change (at number) f es) ∙ change_twice (at number) (λ x. c) f es ∙ sym (set_is (at number) c es)

pub changed_set : (number : ℕ) (c : ChannelState) (f : ChannelState → ChannelState) (es : Ends)
    → change (at number) f (with_end number c es) ≡ with_end number (f c) es
changed_set number c f es =
    ap (change (at number) f) (set_is (at number) c es) ∙ change_twice (at number) f (λ x. c) es ∙ sym (set_is (at number) (f c) es)

pub set_elsewhere : (number other : ℕ) (c : ChannelState) (f : ChannelState → ChannelState) (es : Ends) → number ≢ other
    → with_end number c (change (at other) f es) ≡ change (at other) f (with_end number c es)
set_elsewhere number other c f es differs =
    set_is (at number) c (change (at other) f es) ∙ changes_apart number other (λ x. c) f es differs
    ∙ ap (change (at other) f) (sym (set_is (at number) c es))
