-- The entries that a subscription tells: their numbers are those that their types hold, and they are sent with their source
-- times alone.
use Rattle.std.proofs.Common.{◌≡◌, ℕ, zero, suc, ◌+◌, ◌≤◌, ◌<◌, ◌^◌, Bool, true, false, cond, List, [], ◌∷◌, ◌++◌, Some, None, filter, ◌==◌, sym, ap, subst, ◌∙◌, arith, slice_get}
use Rattle.std.specs.Prelude.{reverse}
use Rattle.std.specs.List.{AllByRecursion}
use Rattle.std.proofs.lemmas.Option.{same_Some}
use Rattle.ua_base.specs.declared.modes.Timestamps.TheVariants as timestamps
use Rattle.set_model.specs.declared.source.Change.{Change}
use Rattle.set_model.specs.Source.{IsSource}
use Rattle.subscription.specs.declared.spec.ItemSpec.{ItemSpec}
use Rattle.subscription.specs.declared.spec.SubSpec.{SubSpec}
use Rattle.subscription.specs.History.{Call}
use Rattle.subscription.specs.Items.{Told}
use Rattle.subscription.specs.Message.{has_source}
use Rattle.server_rules.specs.Step.{Closes, Feeds, Happening, Hears, Levels, Opens, Ticks}
use Rattle.server_laws.specs.Bounded.{items_made}
use Rattle.server_laws.specs.Course.{fed_in}
use Rattle.server_chains.specs.Chains.{EachTold, IsChangeOf, IsOfItem, spec_of}
use Rattle.server_keeps.specs.Fitting.{FitsChange, FitsHappening}
use Rattle.link_rules.specs.declared.config.LinkConfig.{LinkConfig}
use Rattle.arriving_entries.specs.Brought.{FitsTold}
use Rattle.arriving_entries.proofs.Arriving.{pico_there}
use Rattle.life_books.specs.Books.{AreOwnItems, IsOwnItem, IsTimed}
use Rattle.life_books.specs.Lives.{AreOfSource}
use Rattle.whole_books.proofs.Fewness.{Places}

-- its source time alone is sent
pub record IsSourced (one : Told) : Type 0 where
  pub stamps : one.stamps ≡ timestamps.Source

-- an entry's item is one of those that were made
record IsPlacedAt (specs : List ItemSpec) (spec : ItemSpec) : Type 0 where
  place : ℕ
  here : slice_get specs place ≡ Some spec

placed : Places → (spec : SubSpec) (start : ℕ) (calls : List Call) (id : ℕ) (added : ItemSpec) → spec_of id spec start calls ≡ Some added
    → IsPlacedAt (reverse (items_made calls)) added
placed laws spec start calls zero added was = let bad : None ≡ Some added = sym (laws.none spec start calls) ∙ was in absurd cc
placed laws spec start calls (suc place) added was =
    let same : suc place ≡ place + 1 = omega arith in
    record { place = place; here = sym (laws.places spec start calls place) ∙ subst (λ (n : ℕ). spec_of n spec start calls ≡ Some added) same was }

-- ---- changes that fit

filtered_has : (P : Change → Type 0) (p : Change → Bool) (changes : List Change) → AllByRecursion P changes → (place : ℕ) (change : Change)
    → slice_get (filter p changes) place ≡ Some change → P change
filtered_has P p [] all place change here = let bad : None ≡ Some change = here in absurd cc
filtered_has P p (first ∷ changes) all place change here = by_test (p first) (λ place here. filtered_has P p changes all.1 place change here) place here
  where
    by_test : (b : Bool) → ((place : ℕ) → slice_get (filter p changes) place ≡ Some change → P change) → (place : ℕ)
        → slice_get (cond b (first ∷ filter p changes) (filter p changes)) place ≡ Some change → P change
    by_test true more zero here = subst P (same_Some first change here) all.0
    by_test true more (suc place) here = more place here
    by_test false more place here = more place here

one_more : (changes : List Change) (change : Change) → AllByRecursion FitsChange changes → FitsChange change → AllByRecursion FitsChange (changes ++ change ∷ [])
one_more [] change all fits = (fits, tt)
one_more (first ∷ changes) change all fits = (all.0, one_more changes change all.1 fits)

fed_fit : (happenings : List Happening) → AllByRecursion FitsHappening happenings → AllByRecursion FitsChange (fed_in happenings)
fed_fit [] all = tt
fed_fit (Feeds change ∷ earlier) all = one_more (fed_in earlier) change (fed_fit earlier all.1) all.0
fed_fit (Opens number ∷ earlier) all = fed_fit earlier all.1
fed_fit (Hears number h ∷ earlier) all = fed_fit earlier all.1
fed_fit (Closes number ∷ earlier) all = fed_fit earlier all.1
fed_fit (Ticks ms ∷ earlier) all = fed_fit earlier all.1
fed_fit (Levels level ∷ earlier) all = fed_fit earlier all.1

both_fit : (current fed : List Change) → AllByRecursion FitsChange current → AllByRecursion FitsChange fed → AllByRecursion FitsChange (current ++ fed)
both_fit [] fed one other = other
both_fit (change ∷ current) fed one other = (one.0, both_fit current fed one.1 other)

pub known_fit : (current : List Change) (happenings : List Happening) → AllByRecursion FitsChange current → AllByRecursion FitsHappening happenings
    → AllByRecursion FitsChange (current ++ fed_in happenings)
known_fit current happenings one all = both_fit current (fed_in happenings) one (fed_fit happenings all)

-- ---- each entry

each_both : (P Q R : Told → Type 0) → ((one : Told) → P one → Q one → R one) → (told : List Told) → EachTold P told → EachTold Q told → EachTold R told
each_both P Q R f [] each also = tt
each_both P Q R f (one ∷ told) each also = (f one each.0 also.0, each_both P Q R f told each.1 also.1)

wide_enough : (handle other count : ℕ) → handle ≡ other → other ≤ count → count < 2 ^ 16 → handle < 2 ^ 32
wide_enough handle other count same most few = omega (arith, same, most, few)

module _ (laws : Places) (link : LinkConfig) (count : ℕ) (known source : List Change) (spec : SubSpec) (start : ℕ) (calls : List Call)
    (own : AreOwnItems link count timestamps.Source (reverse (items_made calls))) (few : count < 2 ^ 16) (fit : AllByRecursion FitsChange known)
    (rises : IsSource source) (among : (item : ℕ) → AreOfSource known source item) where
  item_is : (one : Told) (of : IsOfItem spec start calls one) → IsOwnItem link count timestamps.Source of.added
  item_is one of = let there = placed laws spec start calls one.id of.added of.was in own.each there.place of.added there.here

  pico_of : (one : Told) → IsChangeOf known one → one.entry.change.pico ≤ 9999
  pico_of one change =
      let there = (among one.entry.change.item).there change.place one.entry.change change.«at» in
      pico_there one.entry.change.item source there.0 one.entry.change rises.picos there.1

  sourced : (one : Told) → IsOfItem spec start calls one → IsChangeOf known one → IsSourced one
  sourced one of change = record { stamps = of.stamps ∙ (item_is one of).timed }

  timed : (one : Told) → IsOfItem spec start calls one → IsChangeOf known one → IsTimed one
  timed one of change = record { timed = ap has_source (sourced one of change).stamps; pico = pico_of one change }

  fits : (one : Told) → IsOfItem spec start calls one → IsChangeOf known one → FitsTold one
  fits one of change =
      let made = item_is one of in
      let is : FitsChange one.entry.change = filtered_has FitsChange (λ (c : Change). c.item == one.entry.change.item) known fit change.place one.entry.change change.«at» in
      record {
        handle = wide_enough one.handle of.added.handle count of.handle made.most few;
        value = is.value;
        time = is.time;
        pico = pico_of one change;
      }

  pub all_sourced : (told : List Told) → EachTold (IsOfItem spec start calls) told → EachTold (IsChangeOf known) told → EachTold IsSourced told
  all_sourced told of changes = each_both (IsOfItem spec start calls) (IsChangeOf known) IsSourced sourced told of changes

  pub all_timed : (told : List Told) → EachTold (IsOfItem spec start calls) told → EachTold (IsChangeOf known) told → EachTold IsTimed told
  all_timed told of changes = each_both (IsOfItem spec start calls) (IsChangeOf known) IsTimed timed told of changes

  pub all_fits : (told : List Told) → EachTold (IsOfItem spec start calls) told → EachTold (IsChangeOf known) told → EachTold FitsTold told
  all_fits told of changes = each_both (IsOfItem spec start calls) (IsChangeOf known) FitsTold fits told of changes
