-- What a link takes is a message of the subscription that it remembers, and of one era where its items report.
use Rattle.std.proofs.Common.{◌≡◌, ◌⊎◌, inl, inr, ℕ, suc, ◌+◌, ◌-◌, ◌^◌, ◌<◌, List, [], ◌∷◌, length, Bool, true, false, Option, Some, None, refl, sym, ◌∙◌, ap, subst, arith}
use Rattle.std.specs.List.{slice_get}
use Rattle.std.proofs.lemmas.Option.{same_Some, slice_get_within}
use Rattle.set_model.specs.declared.source.Change.{Change}
use Rattle.ua_base.specs.Number.{after_message}
use Rattle.ua_channel.specs.State.{is_deaf}
use Rattle.ua_sub_msgs.specs.declared.notification.MonitoredItemNotification.{MonitoredItemNotification}
use Rattle.link_rules.specs.declared.remembered.Monitored.{Monitored}
use Rattle.link_rules.specs.declared.remembered.Remembered.{Remembered}
use Rattle.link_rules.specs.State.{LinkState}
use Rattle.link_rules.specs.Step.{Happening, after, ear_of}
use Rattle.link_laws.specs.Taken.{id_in, reply_of}
use Rattle.link_laws.specs.Course.{Deed, Streams, Monitors, Takes, Leaps, Passes, Skips, Forgets, remembered_by, told_after}
use Rattle.link_takings.specs.From.{AllFrom, AreNamedBy, ComesOf, IsFrom}
use Rattle.link_following.specs.Book.{Book, BringsOf, number_of}
use Rattle.link_following.proofs.Booking.{after_small, number_small}
use Rattle.warm_links.specs.Eras.{ComesInEra, Eras, IsSoundByEra}
use Rattle.warm_links.proofs.Calm.{AllTell, IsCalm, from_calm, named_calm}
use Rattle.warm_links.proofs.Former.{is_dull}

-- ---- the place of a message

-- a message of the subscription of this id, and of this era where the items report
abbrev pub PlacedIn : Book → Eras → ℕ → Bool → ℕ → ℕ → List MonitoredItemNotification → Type 0
PlacedIn book eras era b id number values =
    (place : ℕ) × (slice_get (book id) place ≡ Some values) × (number ≡ number_of (place + 1))
    × (b ≡ true → eras id place ≡ era)

placed_in : (book : Book) (eras : Eras) (era : ℕ) (b : Bool) (h : Happening) (l : LinkState) → BringsOf book h l
    → (b ≡ true → ComesInEra book eras era h l) → (r : Remembered) (number : ℕ) (values : List MonitoredItemNotification)
    → is_deaf (ear_of l) ≡ false → l.remembered ≡ Some r → IsFrom r.id number values h l
    → PlacedIn book eras era b r.id number values
placed_in book eras era true h l brings keeps r number values hears is from =
    let at = keeps refl r number values hears is from in
    (at.0, at.1, at.2, λ e. at.3)
placed_in book eras era false h l brings keeps r number values hears is from =
    let at = brings r number values hears is from in
    (at.0, at.1, at.2, λ (e : false ≡ true). absurd cc)

abbrev pub PlacedOf : Book → Eras → ℕ → Bool → ℕ → List MonitoredItemNotification → Option Remembered → Type 0
PlacedOf book eras era b number values o = (r : Remembered) → o ≡ Some r → PlacedIn book eras era b r.id number values

-- a message that is taken is one of the subscription that is remembered then
abbrev pub IsIn : Book → Eras → ℕ → Bool → Deed → Option Remembered → Type 0
IsIn book eras era b (Takes number values) o = PlacedOf book eras era b number values o
IsIn book eras era b (Leaps number values) o = PlacedOf book eras era b number values o
IsIn book eras era b other o = Unit {0}

abbrev pub AreIn : Book → Eras → ℕ → Bool → List Deed → Option Remembered → Type 0
AreIn book eras era b [] o = Unit {0}
AreIn book eras era b (deed ∷ deeds) o = IsIn book eras era b deed o × AreIn book eras era b deeds (remembered_by deed o)

in_by : (book : Book) (eras : Eras) (era : ℕ) (b : Bool) (number : ℕ) (values : List MonitoredItemNotification)
    (o : Option Remembered) (h : Happening) (l : LinkState) → BringsOf book h l → (b ≡ true → ComesInEra book eras era h l)
    → ComesOf number values o h l → PlacedOf book eras era b number values o
in_by book eras era b number values o h l brings keeps comes = λ r is.
    let now : comes.still ≡ r = same_Some comes.still r (sym comes.is ∙ is) in
    let same : comes.before.id ≡ r.id = sym comes.same ∙ ap (λ (x : Remembered). x.id) now in
    subst (λ id. PlacedIn book eras era b id number values) same
    (placed_in book eras era b h l brings keeps comes.before number values comes.hears comes.remembers comes.from)

pub all_in : (book : Book) (eras : Eras) (era : ℕ) (b : Bool) (deeds : List Deed) (o : Option Remembered) (h : Happening)
    (l : LinkState) → BringsOf book h l → (b ≡ true → ComesInEra book eras era h l) → AllFrom deeds o h l
    → AreIn book eras era b deeds o
all_in book eras era b [] o h l brings keeps from = tt
all_in book eras era b (Streams id ∷ deeds) o h l brings keeps from = (tt, all_in book eras era b deeds _ h l brings keeps from.1)
all_in book eras era b (Monitors items ∷ deeds) o h l brings keeps from =
    (tt, all_in book eras era b deeds o h l brings keeps from.1)
all_in book eras era b (Takes number values ∷ deeds) o h l brings keeps from =
    (in_by book eras era b number values o h l brings keeps from.0, all_in book eras era b deeds _ h l brings keeps from.1)
all_in book eras era b (Leaps number values ∷ deeds) o h l brings keeps from =
    (in_by book eras era b number values o h l brings keeps from.0, all_in book eras era b deeds _ h l brings keeps from.1)
all_in book eras era b (Passes number values ∷ deeds) o h l brings keeps from =
    (tt, all_in book eras era b deeds o h l brings keeps from.1)
all_in book eras era b (Skips number ∷ deeds) o h l brings keeps from = (tt, all_in book eras era b deeds _ h l brings keeps from.1)
all_in book eras era b (Forgets ∷ deeds) o h l brings keeps from = (tt, all_in book eras era b deeds None h l brings keeps from.1)

-- a message of the book has its place as its number
pub record IsPlaced (book : Book) (eras : Eras) (era : ℕ) (b : Bool) (id number : ℕ) (values : List MonitoredItemNotification) : Type 0 where
  pub place : ℕ
  pub at : slice_get (book id) place ≡ Some values
  pub is : number ≡ suc place
  pub next : after_message number ≡ suc (suc place)
  pub within : b ≡ true → eras id place ≡ era

pub placed : (source : List Change) (count : ℕ) (book : Book) (eras : Eras) (era : ℕ) (b : Bool) (id number : ℕ)
    (values : List MonitoredItemNotification) → IsSoundByEra source count book eras
    → PlacedIn book eras era b id number values → IsPlaced book eras era b id number values
placed source count book eras era b id number values sound within =
    let low : within.0 < length (book id) = slice_get_within (book id) within.0 values within.1 in
    let few : length (book id) < 2 ^ 32 - 1 = sound.few id in
    let is : number ≡ suc within.0 = within.2 ∙ number_small within.0 (omega arith) in
    record {
      place = within.0;
      at = within.1;
      is = is;
      next = ap after_message is ∙ after_small within.0 (omega arith);
      within = within.3;
    }

-- ---- events that take nothing

-- no value is taken, and none begins anew
abbrev pub IsQuiet : Deed → Type 0
IsQuiet (Streams id) = ⊥
IsQuiet (Takes number values) = ⊥
IsQuiet (Leaps number values) = ⊥
IsQuiet other = Unit {0}

abbrev pub AreQuiet : List Deed → Type 0
AreQuiet [] = Unit {0}
AreQuiet (deed ∷ deeds) = IsQuiet deed × AreQuiet deeds

quiet_more : (h : Happening) (l : LinkState) (deed : Deed) (deeds : List Deed) → IsQuiet deed
    → IsCalm (after h l) ⊎ AreQuiet deeds → IsCalm (after h l) ⊎ AreQuiet (deed ∷ deeds)
quiet_more h l deed deeds quiet (inl calm) = inl calm
quiet_more h l deed deeds quiet (inr rest) = inr (quiet, rest)

-- an event tells of no mode, or its deeds are quiet
pub calm_or_quiet : (deeds : List Deed) (o : Option Remembered) (h : Happening) (l : LinkState) → AllFrom deeds o h l
    → AreNamedBy deeds (id_in (reply_of h)) → IsCalm (after h l) ⊎ AreQuiet deeds
calm_or_quiet [] o h l from named = inr tt
calm_or_quiet (Streams id ∷ deeds) o h l from named = inl (named_calm id h l named.0)
calm_or_quiet (Monitors items ∷ deeds) o h l from named =
    quiet_more h l (Monitors items) deeds tt (calm_or_quiet deeds o h l from.1 named.1)
calm_or_quiet (Takes number values ∷ deeds) o h l from named = inl (from_calm from.0.before.id number values h l from.0.from)
calm_or_quiet (Leaps number values ∷ deeds) o h l from named = inl (from_calm from.0.before.id number values h l from.0.from)
calm_or_quiet (Passes number values ∷ deeds) o h l from named =
    quiet_more h l (Passes number values) deeds tt (calm_or_quiet deeds o h l from.1 named.1)
calm_or_quiet (Skips number ∷ deeds) o h l from named =
    quiet_more h l (Skips number) deeds tt (calm_or_quiet deeds _ h l from.1 named.1)
calm_or_quiet (Forgets ∷ deeds) o h l from named =
    quiet_more h l Forgets deeds tt (calm_or_quiet deeds None h l from.1 named.1)

pub quiet_dull : (count : ℕ) (deeds : List Deed) (monitored : List Monitored) → AreQuiet deeds
    → AllTell is_dull (told_after count deeds monitored)
quiet_dull count [] monitored quiet = tt
quiet_dull count (Streams id ∷ deeds) monitored quiet = absurd quiet.0
quiet_dull count (Monitors items ∷ deeds) monitored quiet = quiet_dull count deeds items quiet.1
quiet_dull count (Takes number values ∷ deeds) monitored quiet = absurd quiet.0
quiet_dull count (Leaps number values ∷ deeds) monitored quiet = absurd quiet.0
quiet_dull count (Passes number values ∷ deeds) monitored quiet = quiet_dull count deeds monitored quiet.1
quiet_dull count (Skips number ∷ deeds) monitored quiet = (refl, quiet_dull count deeds monitored quiet.1)
quiet_dull count (Forgets ∷ deeds) monitored quiet = quiet_dull count deeds [] quiet.1
