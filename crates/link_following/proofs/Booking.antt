-- What a link takes is a message of the subscription that it remembers.
use Rattle.std.proofs.Common.{◌≡◌, ℕ, suc, ◌+◌, ◌-◌, ◌%◌, ◌^◌, ◌<◌, ◌==◌, List, [], ◌∷◌, ◌++◌, false, Option, Some, None, if◌then◌else◌, sym, ◌∙◌, ap, subst, arith}
use Rattle.std.proofs.Math.Nat.{mod-eq_of_lt}
use Rattle.std.proofs.lemmas.Bool.Decides.{nat_tests}
use Rattle.std.proofs.lemmas.Option.{same_Some}
use Rattle.ua_base.specs.Number.{after_message}
use Rattle.ua_sub_msgs.specs.declared.notification.MonitoredItemNotification.{MonitoredItemNotification}
use Rattle.link_rules.specs.declared.remembered.Remembered.{Remembered}
use Rattle.link_rules.specs.State.{LinkState}
use Rattle.link_rules.specs.Step.{Happening, after}
use Rattle.link_laws.specs.Course.{Deed, Streams, Monitors, Takes, Leaps, Passes, Skips, Forgets, remembered_after, remembered_by}
use Rattle.link_takings.specs.From.{AllFrom, AreSteps, ComesOf, deeds_in}
use Rattle.link_following.specs.Book.{Book, BringsOf, ComeOf, InBook, number_of}

-- ---- numbers

-- where no number comes again, a message's number is one more than its place
pub number_small : (place : ℕ) → place < 2 ^ 32 - 1 → number_of (place + 1) ≡ suc place
number_small place h =
    let small : (place + 1 - 1) % (2 ^ 32 - 1) ≡ place + 1 - 1 = mod-eq_of_lt (omega arith) in
    ap (λ n. 1 + n) small ∙ omega arith

pub after_small : (place : ℕ) → suc place < 2 ^ 32 - 1 → after_message (suc place) ≡ suc (suc place)
after_small place h =
    let test : (suc place == 2 ^ 32 - 1) ≡ false = grind (arith, nat_tests) in
    ap (λ b. if b then 1 else suc place + 1) test ∙ omega arith

-- ---- messages in the book

abbrev pub InBookOf : Book → ℕ → List MonitoredItemNotification → Option Remembered → Type 0
InBookOf book number values o = (r : Remembered) → o ≡ Some r → InBook book r.id number values

-- a message that is taken is one of the subscription that is remembered then
abbrev pub IsBooked : Book → Deed → Option Remembered → Type 0
IsBooked book (Takes number values) o = InBookOf book number values o
IsBooked book (Leaps number values) o = InBookOf book number values o
IsBooked book other o = Unit {0}

abbrev pub AreBooked : Book → List Deed → Option Remembered → Type 0
AreBooked book [] o = Unit {0}
AreBooked book (deed ∷ deeds) o = IsBooked book deed o × AreBooked book deeds (remembered_by deed o)

booked_join : (book : Book) (one other : List Deed) (o : Option Remembered) → AreBooked book one o
    → AreBooked book other (remembered_after one o) → AreBooked book (one ++ other) o
booked_join book [] other o h rest = rest
booked_join book (deed ∷ one) other o h rest = (h.0, booked_join book one other (remembered_by deed o) h.1 rest)

-- what comes of an event

booked_by : (book : Book) (number : ℕ) (values : List MonitoredItemNotification) (o : Option Remembered) (h : Happening)
    (l : LinkState) → BringsOf book h l → ComesOf number values o h l → InBookOf book number values o
booked_by book number values o h l brings comes = λ r is.
    let now : comes.still ≡ r = same_Some comes.still r (sym comes.is ∙ is) in
    let same : comes.before.id ≡ r.id = sym comes.same ∙ ap (λ (x : Remembered). x.id) now in
    subst (λ id. InBook book id number values) same (brings comes.before number values comes.hears comes.remembers comes.from)

booked_of : (book : Book) (deeds : List Deed) (o : Option Remembered) (h : Happening) (l : LinkState) → BringsOf book h l
    → AllFrom deeds o h l → AreBooked book deeds o
booked_of book [] o h l brings from = tt
booked_of book (Streams id ∷ deeds) o h l brings from = (tt, booked_of book deeds _ h l brings from.1)
booked_of book (Monitors items ∷ deeds) o h l brings from = (tt, booked_of book deeds o h l brings from.1)
booked_of book (Takes number values ∷ deeds) o h l brings from =
    (booked_by book number values o h l brings from.0, booked_of book deeds _ h l brings from.1)
booked_of book (Leaps number values ∷ deeds) o h l brings from =
    (booked_by book number values o h l brings from.0, booked_of book deeds _ h l brings from.1)
booked_of book (Passes number values ∷ deeds) o h l brings from = (tt, booked_of book deeds o h l brings from.1)
booked_of book (Skips number ∷ deeds) o h l brings from = (tt, booked_of book deeds _ h l brings from.1)
booked_of book (Forgets ∷ deeds) o h l brings from = (tt, booked_of book deeds None h l brings from.1)

pub booked_in : (book : Book) (happenings : List Happening) (l : LinkState) (steps : AreSteps happenings l)
    → ComeOf book happenings l → AreBooked book (deeds_in happenings l steps) l.remembered
booked_in book [] l steps come = tt
booked_in book (h ∷ more) l steps come =
    let next : LinkState = (after h l).link in
    booked_join book steps.0.deeds (deeds_in more next steps.1) l.remembered
    (booked_of book steps.0.deeds l.remembered h l come.0 steps.0.from)
    (subst (AreBooked book (deeds_in more next steps.1)) steps.0.leads (booked_in book more next steps.1 come.1))
