-- What the deeds of an event have to do with what comes in it.
use Rattle.std.proofs.Common.{◌≡◌, ℕ, List, [], ◌∷◌, ◌++◌, Bool, true, false, Option, Some, None, if◌then◌else◌, refl, sym, ap, ◌∙◌, subst, append_assoc, inl, inr}
use Rattle.ua_channel.specs.State.{is_deaf}
use Rattle.link_rules.specs.declared.notice.Notice.{Notice}
use Rattle.link_rules.specs.declared.remembered.Monitored.{Monitored}
use Rattle.link_rules.specs.declared.remembered.Remembered.{Remembered}
use Rattle.link_rules.specs.State.{LinkState}
use Rattle.link_rules.specs.Step.{Happening, ear_of}
use Rattle.link_laws.specs.Acks.{IsWithin}
use Rattle.link_laws.specs.Course.{AreDoable, AreKnown, Data, Deed, Streams, Monitors, Takes, Leaps, Passes, Skips, Forgets, data_of_all, id_heard, ids_of, is_of_values, monitored_after, monitored_by, of_values, remembered_after, remembered_by, told_after, told_by, with_next}
use Rattle.link_takings.specs.From.{AllFrom, AreNamedBy, ComesOf, IsFrom}

-- ---- one after another

pub remembered_join : (one other : List Deed) (o : Option Remembered) → remembered_after (one ++ other) o ≡ remembered_after other (remembered_after one o)
remembered_join [] other o = refl
remembered_join (deed ∷ one) other o = remembered_join one other (remembered_by deed o)

pub doable_join : (one other : List Deed) (o : Option Remembered) → AreDoable one o → AreDoable other (remembered_after one o)
    → AreDoable (one ++ other) o
doable_join [] other o h rest = rest
doable_join (deed ∷ one) other o h rest = (h.0, doable_join one other (remembered_by deed o) h.1 rest)

pub told_join : (count : ℕ) (one other : List Deed) (items : List Monitored)
    → told_after count (one ++ other) items ≡ told_after count one items ++ told_after count other (monitored_after one items)
told_join count [] other items = refl
told_join count (deed ∷ one) other items =
    ap (λ (x : List Notice). told_by count deed items ++ x) (told_join count one other (monitored_by deed items))
    ∙ sym (append_assoc (told_by count deed items) (told_after count one (monitored_by deed items))
    (told_after count other (monitored_after one (monitored_by deed items))))

pub monitored_join : (one other : List Deed) (items : List Monitored)
    → monitored_after (one ++ other) items ≡ monitored_after other (monitored_after one items)
monitored_join [] other items = refl
monitored_join (deed ∷ one) other items = monitored_join one other (monitored_by deed items)

pub known_join : (one other : List Deed) (items : List Monitored) → AreKnown one items → AreKnown other (monitored_after one items)
    → AreKnown (one ++ other) items
known_join [] other items h rest = rest
known_join (deed ∷ one) other items h rest = (h.0, known_join one other (monitored_by deed items) h.1 rest)

values_by : (b : Bool) (n : Notice) (one other : List Notice) → (if b then n ∷ (one ++ other) else one ++ other) ≡ (if b then n ∷ one else one) ++ other
values_by true n one other = refl
values_by false n one other = refl

pub values_join : (one other : List Notice) → of_values (one ++ other) ≡ of_values one ++ of_values other
values_join [] other = refl
values_join (n ∷ one) other =
    ap (λ (x : List Notice). if is_of_values n then n ∷ x else x) (values_join one other)
    ∙ values_by (is_of_values n) n (of_values one) (of_values other)

-- ---- new subscriptions

-- each of these ids is the one that comes
abbrev AreMade : List ℕ → Option ℕ → Type 0
AreMade [] made = Unit {0}
AreMade (id ∷ ids) made = (made ≡ Some id) × AreMade ids made

within_made : (xs ys : List ℕ) (made : Option ℕ) → IsWithin xs ys → AreMade ys made → AreMade xs made
within_made xs [] made h all = subst (λ (x : List ℕ). AreMade x made) (sym h) tt
within_made xs (y ∷ ys) made (inl h) all = within_made xs ys made h all.1
within_made xs (y ∷ ys) made (inr h) all =
    subst (λ (x : List ℕ). AreMade x made) (sym h.1) (all.0, within_made h.0 ys made h.2 all.1)

heard_made : (made : Option ℕ) → AreMade (id_heard made ++ []) made
heard_made None = tt
heard_made (Some id) = (refl, tt)

all_named : (deeds : List Deed) (made : Option ℕ) → AreMade (ids_of deeds) made → AreNamedBy deeds made
all_named [] made h = tt
all_named (Streams id ∷ deeds) made h = (h.0, all_named deeds made h.1)
all_named (Monitors items ∷ deeds) made h = (tt, all_named deeds made h)
all_named (Takes number values ∷ deeds) made h = (tt, all_named deeds made h)
all_named (Leaps number values ∷ deeds) made h = (tt, all_named deeds made h)
all_named (Passes number values ∷ deeds) made h = (tt, all_named deeds made h)
all_named (Skips number ∷ deeds) made h = (tt, all_named deeds made h)
all_named (Forgets ∷ deeds) made h = (tt, all_named deeds made h)

pub deeds_named : (deeds : List Deed) (made : Option ℕ) → IsWithin (ids_of deeds) (id_heard made ++ []) → AreNamedBy deeds made
deeds_named deeds made h = all_named deeds made (within_made (ids_of deeds) (id_heard made ++ []) made h (heard_made made))

-- ---- data

-- each of these data comes of the subscription that is remembered, if there is one
abbrev pub AllCome : List Data → Happening → LinkState → Type 0
AllCome [] h l = Unit {0}
AllCome (one ∷ more) h l =
    ((r : Remembered) → l.remembered ≡ Some r → IsFrom r.id one.number one.values h l) × AllCome more h l

within_come : (xs ys : List Data) (h : Happening) (l : LinkState) → IsWithin xs ys → AllCome ys h l → AllCome xs h l
within_come xs [] h l within all = subst (λ (x : List Data). AllCome x h l) (sym within) tt
within_come xs (y ∷ ys) h l (inl within) all = within_come xs ys h l within all.1
within_come xs (y ∷ ys) h l (inr within) all =
    subst (λ (x : List Data). AllCome x h l) (sym within.1) (all.0, within_come within.0 ys h l within.2 all.1)

-- what is remembered is nothing, or the subscription that was remembered before
abbrev IsStill : Option Remembered → LinkState → Type 0
IsStill None l = Unit {0}
IsStill (Some now) l = (r : Remembered) × (l.remembered ≡ Some r) × (now.id ≡ r.id)

still_first : (o : Option Remembered) (l : LinkState) → l.remembered ≡ o → IsStill o l
still_first None l e = tt
still_first (Some r) l e = (r, e, refl)

still_next : (next : ℕ) (o : Option Remembered) (l : LinkState) → IsStill o l → IsStill (with_next next o) l
still_next next None l h = tt
still_next next (Some now) l h = (h.0, h.1, h.2)

comes_by : (number : ℕ) (values : _) (o : Option Remembered) (now : Remembered) (h : Happening) (l : LinkState)
    → is_deaf (ear_of l) ≡ false → o ≡ Some now → IsStill o l
    → ((r : Remembered) → l.remembered ≡ Some r → IsFrom r.id number values h l) → ComesOf number values o h l
comes_by number values o now h l hears is still come =
    let was : IsStill (Some now) l = subst (λ x. IsStill x l) is still in
    record { hears = hears; before = was.0; remembers = was.1; from = come was.0 was.1; still = now; is = is; same = was.2 }

all_come : (deeds : List Deed) (o : Option Remembered) (h : Happening) (l : LinkState) → is_deaf (ear_of l) ≡ false
    → AreNamedBy deeds None → AreDoable deeds o → IsStill o l → AllCome (data_of_all deeds) h l → AllFrom deeds o h l
all_come [] o h l hears named doable still come = tt
all_come (Streams id ∷ deeds) o h l hears named doable still come = let bad : None ≡ Some id = named.0 in absurd cc
all_come (Monitors items ∷ deeds) o h l hears named doable still come = (tt, all_come deeds o h l hears named.1 doable.1 still come)
all_come (Takes number values ∷ deeds) o h l hears named doable still come = (
  comes_by number values o doable.0.0 h l hears doable.0.1 still come.0,
  all_come deeds _ h l hears named.1 doable.1 (still_next _ o l still) come.1,
)
all_come (Leaps number values ∷ deeds) o h l hears named doable still come = (
  comes_by number values o doable.0.0 h l hears doable.0.1 still come.0,
  all_come deeds _ h l hears named.1 doable.1 (still_next _ o l still) come.1,
)
all_come (Passes number values ∷ deeds) o h l hears named doable still come =
    (comes_by number values o doable.0.0 h l hears doable.0.1 still come.0, all_come deeds o h l hears named.1 doable.1 still come.1)
all_come (Skips number ∷ deeds) o h l hears named doable still come =
    (tt, all_come deeds _ h l hears named.1 doable.1 (still_next number o l still) come)
all_come (Forgets ∷ deeds) o h l hears named doable still come = (tt, all_come deeds None h l hears named.1 doable.1 tt come)

pub deeds_come : (deeds : List Deed) (messages : List Data) (h : Happening) (l : LinkState) → is_deaf (ear_of l) ≡ false
    → AreNamedBy deeds None → AreDoable deeds l.remembered → IsWithin (data_of_all deeds) messages → AllCome messages h l → AllFrom deeds l.remembered h l
deeds_come deeds messages h l hears named doable within come =
    all_come deeds l.remembered h l hears named doable (still_first l.remembered l refl) (within_come (data_of_all deeds) messages h l within come)

none_from : (deeds : List Deed) (o : Option Remembered) (h : Happening) (l : LinkState) → data_of_all deeds ≡ [] → AllFrom deeds o h l
none_from [] o h l none = tt
none_from (Streams id ∷ deeds) o h l none = (tt, none_from deeds _ h l none)
none_from (Monitors items ∷ deeds) o h l none = (tt, none_from deeds o h l none)
none_from (Takes number values ∷ deeds) o h l none = absurd cc
none_from (Leaps number values ∷ deeds) o h l none = absurd cc
none_from (Passes number values ∷ deeds) o h l none = absurd cc
none_from (Skips number ∷ deeds) o h l none = (tt, none_from deeds _ h l none)
none_from (Forgets ∷ deeds) o h l none = (tt, none_from deeds None h l none)

pub no_data : (deeds : List Deed) (h : Happening) (l : LinkState) → data_of_all deeds ≡ [] → AllFrom deeds l.remembered h l
no_data deeds h l none = none_from deeds l.remembered h l none
