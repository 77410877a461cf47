-- What the law needs of stamps: that they are totally ordered. All lemmas about places, steps and neighbours stand on
-- the facts of this file, and on nothing else about stamps.
use Rattle.std.proofs.Common.{◌≡◌, Bool, true, false, refl}
use Rattle.set_model.specs.declared.stamp.Stamp.{Stamp}
use Rattle.set_model.specs.Stamp.{is_before}
use Rattle.set_model.proofs.StampLemmas.{stamp_order}

-- no stamp is before itself
pub apart : (a : Stamp) → is_before a a ≡ false
apart = stamp_order.apart

-- what is before a stamp is before all that come after it
pub goes_on : (a b c : Stamp) → is_before a b ≡ true → is_before b c ≡ true → is_before a c ≡ true
goes_on = stamp_order.goes_on

pub not_both : (b : Bool) → b ≡ true → b ≡ false → ⊥
not_both true h k = absurd cc
not_both false h k = absurd cc

-- of two stamps at most one is before the other
pub one_way : (a b : Stamp) → is_before a b ≡ true → is_before b a ≡ true → ⊥
one_way a b h k = not_both (is_before a a) (goes_on a b a h k) (apart a)

not_before_test : (a b : Stamp) (t : Bool) → is_before b a ≡ t → is_before a b ≡ true → t ≡ false
not_before_test a b true e h = absurd (one_way a b h e)
not_before_test a b false e h = refl

-- an earlier stamp has no stamp after it before it
pub not_before : (a b : Stamp) → is_before a b ≡ true → is_before b a ≡ false
not_before a b h = not_before_test a b (is_before b a) refl h

still_not_test : (a b c : Stamp) (t : Bool) → is_before b c ≡ t → is_before a b ≡ true → is_before a c ≡ false → t ≡ false
still_not_test a b c true e h k = absurd (not_both (is_before a c) (goes_on a b c h e) k)
still_not_test a b c false e h k = refl

-- what an earlier stamp isn't before, a later one isn't before either
pub still_not_before : (a b c : Stamp) → is_before a b ≡ true → is_before a c ≡ false → is_before b c ≡ false
still_not_before a b c h k = still_not_test a b c (is_before b c) refl h k
