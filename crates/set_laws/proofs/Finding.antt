-- The messages of each id: those of the life whose boot number it tells.
use Rattle.std.proofs.Common.{◌≡◌, ℕ, ◌+◌, ◌*◌, ◌<◌, ◌≤◌, ◌&&◌, Bool, true, false, cond, List, [], ◌∷◌, nat_le, nat_lt, ap, arith}
use Rattle.std.proofs.lemmas.Bool.Decides.{nat_tests}
use Rattle.std.specs.List.{AllByRecursion}
use Rattle.ua_sub_msgs.specs.declared.notification.MonitoredItemNotification.{MonitoredItemNotification}
use Rattle.link_following.specs.Book.{Book}
use Rattle.whole_books.specs.Whole.{IsOfBoot}

-- the books of a life's subscriptions, with its boot number
pub record Volume : Type 0 where
  pub boot : ℕ
  pub book : Book

abbrev pub is_of_boot : ℕ → ℕ → Bool
is_of_boot boot id = nat_lt (boot * 65536) id && nat_le id (boot * 65536 + 65535)

abbrev pub book_in : List Volume → Book
book_in [] id = []
book_in (v ∷ more) id = cond (is_of_boot v.boot id) (v.book id) (book_in more id)

is_own : (boot id : ℕ) → IsOfBoot boot id → is_of_boot boot id ≡ true
is_own boot id own = let above = own.above in let most = own.most in grind (arith, nat_tests)

is_other : (boot earlier id : ℕ) → earlier < boot → IsOfBoot earlier id → is_of_boot boot id ≡ false
is_other boot earlier id less own =
    let most = own.most in ap (λ b. b && nat_le id (boot * 65536 + 65535)) (not_above boot earlier id less most)
  where
    not_above : (boot earlier id : ℕ) → earlier < boot → id ≤ earlier * 65536 + 65535 → nat_lt (boot * 65536) id ≡ false
    not_above boot earlier id less most = grind (arith, nat_tests)

pub own_book : (v : Volume) (more : List Volume) (id : ℕ) → IsOfBoot v.boot id → book_in (v ∷ more) id ≡ v.book id
own_book v more id own = ap (λ b. cond b (v.book id) (book_in more id)) (is_own v.boot id own)

pub earlier_book : (v : Volume) (more : List Volume) (boot id : ℕ) → boot < v.boot → IsOfBoot boot id → book_in (v ∷ more) id ≡ book_in more id
earlier_book v more boot id less own = ap (λ b. cond b (v.book id) (book_in more id)) (is_other v.boot boot id less own)

-- whatever each of the books has, and the empty one, the found one has
pub found_has : (P : List (List MonitoredItemNotification) → Type 0) (id : ℕ) (volumes : List Volume) → P []
    → AllByRecursion (λ (v : Volume). P (v.book id)) volumes → P (book_in volumes id)
found_has P id [] empty all = empty
found_has P id (v ∷ more) empty all = by_test (is_of_boot v.boot id) all.0 (found_has P id more empty all.1)
  where
    by_test : (b : Bool) → P (v.book id) → P (book_in more id) → P (cond b (v.book id) (book_in more id))
    by_test true one other = one
    by_test false one other = other
