-- The subscription of an id, by its place.
use Rattle.std.proofs.Common.{◌≡◌, ℕ, suc, ◌<◌, ◌≤◌, ◌==◌, List, [], ◌∷◌, ◌++◌, Bool, true, false, cond, ◌||◌, nat_lt, Option, Some, None, length, map, refl, sym, ◌∙◌, ap, arith, get_or, set, subst}
use Rattle.std.specs.List.{position_or_len, position, filter}
use Rattle.std.proofs.lemmas.Bool.Decides.{nat_tests}
use Rattle.std.specs.Prelude.{Result, Ok, Err, OnErr, OnOk}
use Rattle.sessions.specs.declared.ownership.Ownership.{Ownership}
use Rattle.sessions.specs.State.{SessionsState}
use Rattle.sessions.specs.Table.{disowned, keeps, without_id}
use Rattle.subscription.specs.declared.cycle.Cycle.{Cycle}
use Rattle.subscription.specs.declared.cycle.Cycle.TheVariants.{Quiet, Notify, KeepAlive, Late, Expired}
use Rattle.subscription.specs.Cycle.{after_row, cycled, row_of}
use Rattle.subscription.specs.State.{SubState}
use Rattle.server_rules.specs.State.{changed_if, is_sub, sub_at, without_sub}
use Rattle.server_subs.specs.Apart.{AreApart, AreDistinct, ids_of, is_among}

-- what the subscription at this place, which is the one of an id, says of its list
pub record IsAt (id : ℕ) (subs : List SubState) (place : ℕ) (sub : SubState) : Type 0 where
  pub within : place < length subs
  pub found : sub_at id subs ≡ Some sub
  pub changes : (change : SubState → SubState) → AreApart subs → map (changed_if id change) subs ≡ set subs place (change sub)
  pub ids : (after : SubState) → after.spec.id ≡ sub.spec.id → ids_of (set subs place after) ≡ ids_of subs

-- none is the one of an id
pub record IsNowhere (id : ℕ) (subs : List SubState) : Type 0 where
  pub found : sub_at id subs ≡ None
  pub changes : (change : SubState → SubState) → map (changed_if id change) subs ≡ subs

-- neither of two
or_parts : (a b : Bool) → (a || b) ≡ false → (a ≡ false) × (b ≡ false)
or_parts true b is = absurd cc
or_parts false b is = (refl, is)

or_none : (a b : Bool) → a ≡ false → b ≡ false → (a || b) ≡ false
or_none a b first second = rw first second

-- where an id is another one's, subscriptions without it stay
stays_by : (id : ℕ) (change : SubState → SubState) (sub : SubState) (subs : List SubState) (b : Bool) → (sub.spec.id == id) ≡ b
    → (is_among id (ids_of subs) ≡ false → map (changed_if id change) subs ≡ subs)
    → is_among id (ids_of (sub ∷ subs)) ≡ false → map (changed_if id change) (sub ∷ subs) ≡ sub ∷ subs
stays_by id change sub subs true is rest apart = let h = rw is at apart in absurd cc
stays_by id change sub subs false is rest apart = rw is (ap (λ more. sub ∷ more) (rest (or_parts (sub.spec.id == id) (is_among id (ids_of subs)) apart).1))

stays : (id : ℕ) (change : SubState → SubState) (subs : List SubState) → is_among id (ids_of subs) ≡ false → map (changed_if id change) subs ≡ subs
stays id change [] apart = refl
stays id change (sub ∷ subs) apart = stays_by id change sub subs _ refl (stays id change subs) apart

same_id : (id : ℕ) (sub : SubState) → is_sub id sub ≡ true → sub.spec.id ≡ id
same_id id sub is = grind (arith, nat_tests)

here : (id : ℕ) (sub : SubState) (subs : List SubState) → is_sub id sub ≡ true → IsAt id (sub ∷ subs) 0 sub
here id sub subs passes =
    let same : sub.spec.id ≡ id = same_id id sub passes in
    record {
      within = omega arith;
      found = rw passes refl;
      changes = λ change apart. rw passes (ap (λ more. change sub ∷ more) (stays id change subs (subst (λ n. is_among n (ids_of subs) ≡ false) same apart.0)));
      ids = λ after is. rw is refl;
    }

later : (id : ℕ) (first : SubState) (subs : List SubState) (place : ℕ) (sub : SubState) → is_sub id first ≡ false
    → IsAt id subs place sub → IsAt id (first ∷ subs) (suc place) sub
later id first subs place sub fails h =
    let within : place < length subs = h.within in
    record {
      within = omega arith;
      found = rw fails h.found;
      changes = λ change apart. rw fails (ap (λ more. first ∷ more) (h.changes change apart.1));
      ids = λ after is. ap (λ more. first.spec.id ∷ more) (h.ids after is);
    }

place_here : (id : ℕ) (first : SubState) (subs : List SubState) → is_sub id first ≡ true → position_or_len (is_sub id) (first ∷ subs) ≡ 0
place_here id first subs passes = rw passes refl

place_later : (id : ℕ) (first : SubState) (subs : List SubState) → is_sub id first ≡ false
    → position_or_len (is_sub id) (first ∷ subs) ≡ suc (position_or_len (is_sub id) subs)
place_later id first subs fails = rw fails (omega arith)

at_test : (id : ℕ) (first : SubState) (subs : List SubState) (place : ℕ) (sub : SubState) (passes : Bool) → is_sub id first ≡ passes
    → ((place : ℕ) → place ≡ position_or_len (is_sub id) subs → place < length subs → sub ≡ get_or subs place sub → IsAt id subs place sub)
    → place ≡ position_or_len (is_sub id) (first ∷ subs) → place < length (first ∷ subs)
    → sub ≡ get_or (first ∷ subs) place sub → IsAt id (first ∷ subs) place sub
at_test id first subs place sub true is rest at within reads =
    let zero_is : place ≡ 0 = at ∙ place_here id first subs is in
    let same : sub ≡ first = reads ∙ ap (λ k. get_or (first ∷ subs) k sub) zero_is in
    let P : SubState → Type 0 = λ s. IsAt id (first ∷ subs) place s in
    let Q : ℕ → Type 0 = λ k. IsAt id (first ∷ subs) k first in
    subst P (sym same) (subst Q (sym zero_is) (here id first subs is))
at_test id first subs place sub false is rest at within reads =
    let more : place ≡ suc (position_or_len (is_sub id) subs) = at ∙ place_later id first subs is in
    let Q : ℕ → Type 0 = λ k. IsAt id (first ∷ subs) k sub in
    subst Q (sym more)
    (later id first subs (position_or_len (is_sub id) subs) sub is
    (rest (position_or_len (is_sub id) subs) refl (omega arith) (reads ∙ ap (λ k. get_or (first ∷ subs) k sub) more)))

at_by : (id : ℕ) (subs : List SubState) (place : ℕ) (sub : SubState) → place ≡ position_or_len (is_sub id) subs → place < length subs
    → sub ≡ get_or subs place sub → IsAt id subs place sub
at_by id [] place sub at within reads = absurd (omega arith)
at_by id (first ∷ subs) place sub at within reads =
    at_test id first subs place sub _ refl (λ k. at_by id subs k sub) at within reads

nowhere_test : (id : ℕ) (first : SubState) (subs : List SubState) (passes : Bool) → is_sub id first ≡ passes
    → (length subs ≤ position_or_len (is_sub id) subs → IsNowhere id subs)
    → length (first ∷ subs) ≤ position_or_len (is_sub id) (first ∷ subs) → IsNowhere id (first ∷ subs)
nowhere_test id first subs true is rest past =
    let at = place_here id first subs is in
    absurd (omega arith)
nowhere_test id first subs false is rest past =
    let more = place_later id first subs is in
    let h = rest (omega arith) in
    record { found = rw is h.found; changes = λ change. rw is (ap (λ more. first ∷ more) (h.changes change)) }

nowhere_by : (id : ℕ) (subs : List SubState) → length subs ≤ position_or_len (is_sub id) subs → IsNowhere id subs
nowhere_by id [] past = record { found = refl; changes = λ change. refl }
nowhere_by id (first ∷ subs) past = nowhere_test id first subs _ refl (nowhere_by id subs) past

-- by what `position` gives
chosen : (place count : ℕ) (b : Bool) (at : ℕ) → nat_lt place count ≡ b → cond b (Some place) None ≡ Some at → (at ≡ place) × (place < count)
chosen place count true at is e = (cc, grind (arith, nat_tests))
chosen place count false at is e = absurd cc

missed : (place count : ℕ) (b : Bool) → nat_lt place count ≡ b → ◌≡◌ {A = Option ℕ} (cond b (Some place) None) None → count ≤ place
missed place count true is e = absurd cc
missed place count false is e = grind (arith, nat_tests)

-- the subscription at the place that `position` found
pub at_place : (id : ℕ) (found : Option ℕ) (read subs : List SubState) (place : ℕ) (sub : SubState) → found ≡ position (is_sub id) read
    → read ≡ subs → found ≡ Some place → sub ≡ get_or subs place sub → IsAt id subs place sub
at_place id found read subs place sub finds same is reads =
    let at : position (is_sub id) subs ≡ Some place = ap (position (is_sub id)) (sym same) ∙ sym finds ∙ is in
    let chose = chosen (position_or_len (is_sub id) subs) (length subs) _ place refl at in
    at_by id subs place sub chose.0 (rw chose.0 chose.1) reads

-- where it found none
pub nowhere : (id : ℕ) (found : Option ℕ) (read subs : List SubState) → found ≡ position (is_sub id) read → read ≡ subs → found ≡ None
    → IsNowhere id subs
nowhere id found read subs finds same is =
    let at : position (is_sub id) subs ≡ None = ap (position (is_sub id)) (sym same) ∙ sym finds ∙ is in
    nowhere_by id subs (missed (position_or_len (is_sub id) subs) (length subs) _ refl at)

-- ---- they stay apart

-- one changed in its place keeps its id
pub apart_at : (id : ℕ) (subs : List SubState) (place : ℕ) (sub after : SubState) → IsAt id subs place sub → after.spec.id ≡ sub.spec.id
    → AreApart subs → AreApart (set subs place after)
apart_at id subs place sub after h same apart = subst AreDistinct (sym (h.ids after same)) apart

-- all change, and keep their ids
pub ids_mapped : (change : SubState → SubState) (subs : List SubState) → ((sub : SubState) → (change sub).spec.id ≡ sub.spec.id)
    → ids_of (map change subs) ≡ ids_of subs
ids_mapped change [] keeps = refl
ids_mapped change (sub ∷ subs) keeps = rw (keeps sub) (ap (λ more. sub.spec.id ∷ more) (ids_mapped change subs keeps))

pub apart_mapped : (change : SubState → SubState) (subs after : List SubState) → ((sub : SubState) → (change sub).spec.id ≡ sub.spec.id)
    → after ≡ map change subs → AreApart subs → AreApart after
apart_mapped change subs after keeps is apart =
    subst AreApart (sym is) (subst AreDistinct (sym (ids_mapped change subs keeps)) apart)

-- some go
among_test : (p : SubState → Bool) (id : ℕ) (sub : SubState) (subs : List SubState) (kept : Bool) → p sub ≡ kept
    → (is_among id (ids_of subs) ≡ false → is_among id (ids_of (filter p subs)) ≡ false)
    → is_among id (ids_of (sub ∷ subs)) ≡ false → is_among id (ids_of (filter p (sub ∷ subs))) ≡ false
among_test p id sub subs true is rest apart =
    let h = or_parts (sub.spec.id == id) (is_among id (ids_of subs)) apart in
    rw is (or_none _ _ h.0 (rest h.1))
among_test p id sub subs false is rest apart = rw is (rest (or_parts (sub.spec.id == id) (is_among id (ids_of subs)) apart).1)

among_kept : (p : SubState → Bool) (id : ℕ) (subs : List SubState) → is_among id (ids_of subs) ≡ false → is_among id (ids_of (filter p subs)) ≡ false
among_kept p id [] apart = refl
among_kept p id (sub ∷ subs) apart = among_test p id sub subs _ refl (among_kept p id subs) apart

kept_test : (p : SubState → Bool) (sub : SubState) (subs : List SubState) (kept : Bool) → p sub ≡ kept
    → AreApart (filter p subs) → is_among sub.spec.id (ids_of (filter p subs)) ≡ false → AreApart (filter p (sub ∷ subs))
kept_test p sub subs true is rest apart = rw is (apart, rest)
kept_test p sub subs false is rest apart = rw is rest

pub apart_kept : (p : SubState → Bool) (subs : List SubState) → AreApart subs → AreApart (filter p subs)
apart_kept p [] apart = tt
apart_kept p (sub ∷ subs) apart = kept_test p sub subs _ refl (apart_kept p subs apart.1) (among_kept p sub.spec.id subs apart.0)

-- the one of an id is among those without it no more
gone_test : (id : ℕ) (sub : SubState) (subs : List SubState) (b : Bool) → is_sub id sub ≡ b
    → is_among id (ids_of (without_sub id subs)) ≡ false → is_among id (ids_of (without_sub id (sub ∷ subs))) ≡ false
gone_test id sub subs true is rest = rw is rest
gone_test id sub subs false is rest = rw (is, is) rest

none_left : (id : ℕ) (subs : List SubState) → is_among id (ids_of (without_sub id subs)) ≡ false
none_left id [] = refl
none_left id (sub ∷ subs) = gone_test id sub subs _ refl (none_left id subs)

other_way : (a b : ℕ) → (a == b) ≡ false → (b == a) ≡ false
other_way a b is = grind (arith, nat_tests)

among_more : (id : ℕ) (sub : SubState) (subs : List SubState) → is_among id (ids_of subs) ≡ false → (sub.spec.id == id) ≡ false
    → is_among id (ids_of (subs ++ sub ∷ [])) ≡ false
among_more id sub [] apart other = rw other refl
among_more id sub (first ∷ subs) apart other =
    let h = or_parts (first.spec.id == id) (is_among id (ids_of subs)) apart in
    or_none _ _ h.0 (among_more id sub subs h.1 other)

apart_more : (sub : SubState) (subs : List SubState) → AreApart subs → is_among sub.spec.id (ids_of subs) ≡ false → AreApart (subs ++ sub ∷ [])
apart_more sub [] apart fresh = (refl, tt)
apart_more sub (first ∷ subs) apart fresh =
    let h = or_parts (first.spec.id == sub.spec.id) (is_among sub.spec.id (ids_of subs)) fresh in
    (among_more first.spec.id sub subs apart.0 (other_way first.spec.id sub.spec.id h.0), apart_more sub subs apart.1 h.1)

-- one more, in the place of the one of its id
pub apart_added : (sub : SubState) (subs after : List SubState) → AreApart subs → after ≡ without_sub sub.spec.id subs ++ sub ∷ [] → AreApart after
apart_added sub subs after apart is =
    subst AreApart (sym is)
    (apart_more sub (without_sub sub.spec.id subs) (apart_kept _ subs apart) (none_left sub.spec.id subs))

pub apart_replaced : {A E : Type 0} (result : Result A E) (sub : SubState) (subs after : List SubState)
    → OnOk result (after ≡ without_sub sub.spec.id subs ++ sub ∷ []) → OnErr result (after ≡ without_sub sub.spec.id subs)
    → AreApart subs → AreApart after
apart_replaced (Ok one) sub subs after ok err apart = apart_added sub subs after apart ok
apart_replaced (Err fault) sub subs after ok err apart = subst AreApart (sym err) (apart_kept _ subs apart)

-- a cycle keeps the id
row_id : (row : Cycle) (queued : Bool) (sub : SubState) → (after_row row queued sub).spec.id ≡ sub.spec.id
row_id Quiet queued sub = refl
row_id Notify queued sub = refl
row_id KeepAlive queued sub = refl
row_id Late queued sub = refl
row_id Expired queued sub = refl

pub cycled_id : (queued : Bool) (sub : SubState) → (cycled queued sub).spec.id ≡ sub.spec.id
cycled_id queued sub = row_id (row_of queued sub) queued sub

-- what always holds, holds where a call succeeds
pub on_ok : {A E : Type 0} (result : Result A E) (X : Type 0) → X → OnOk result X
on_ok (Ok one) X holds = holds
on_ok (Err fault) X holds = tt

-- of what was disowned nothing is kept
disowned_test : (id : ℕ) (ownership : Ownership) (owned : List Ownership) (b : Bool) → (ownership.id == id) ≡ b
    → keeps id (without_id id owned) ≡ false → keeps id (without_id id (ownership ∷ owned)) ≡ false
disowned_test id ownership owned true is rest = rw is rest
disowned_test id ownership owned false is rest = rw (is, is) rest

pub none_kept : (id : ℕ) (owned : List Ownership) → keeps id (without_id id owned) ≡ false
none_kept id [] = refl
none_kept id (ownership ∷ owned) = disowned_test id ownership owned _ refl (none_kept id owned)

pub disowned_fresh : (id : ℕ) (before after : SessionsState) → after ≡ disowned id before → keeps id after.owned ≡ false
disowned_fresh id before after is = ap (λ (x : SessionsState). keeps id x.owned) is ∙ none_kept id before.owned
