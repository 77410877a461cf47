-- What one more change makes of a source: its last changes and the rise of each item.
use Rattle.std.proofs.Common.{◌≡◌, ◌==◌, ℕ, ◌+◌, ◌<◌, ◌≤◌, List, [], ◌∷◌, ◌++◌, Bool, true, false, cond, not, Option, Some, None, length, reverse, refl, sym, ◌∙◌, ap, arith, slice_index_or}
use Rattle.std.specs.List.{find}
use Rattle.std.proofs.Common.{subst}
use Rattle.std.specs.Prelude.{nat_le}
use Rattle.std.proofs.lemmas.Bool.Decides.{nat_tests}
use Rattle.std.specs.Prelude.{if◌then◌else◌, slice_set}
use Rattle.std.specs.Ordering.{int_eq}
use Rattle.std.proofs.Common.{◌≢◌}
use Rattle.std.proofs.lemmas.List.{reverse-append, append-nil, length-append, length-replicate, length-set, get_or-set_other, get_or-replicate}
use Rattle.std.proofs.lemmas.Grind.{get_or-set_at}
use Rattle.std.proofs.lemmas.List.Elements.{filter-append}
use Rattle.std.proofs.lemmas.Bool.Decides.{Decides-int_eq}
use Rattle.set_model.specs.declared.source.Change.{Change}
use Rattle.set_model.specs.declared.source.SourceFault.{SourceFault}
use Rattle.set_model.specs.declared.source.SourceFault.TheVariants.{Full, TimeNotRising, SameValue}
use Rattle.set_model.specs.Stamp.{is_before}
use Rattle.set_model.specs.Source.{of_item, stamp_of, HavePicos, Follows, RisesAfter, Rises, IsSource, last_of, refusal, refusal_after, AreLasts, End, no_end, end_after, last_at, refusal_at, IsEndOf}

-- the last of a list that begins with c
abbrev pub newest_from : Change → List Change → Change
newest_from c [] = c
newest_from c (d ∷ ds) = newest_from d ds

abbrev pub newest : List Change → Option Change
newest [] = None
newest (c ∷ cs) = Some (newest_from c cs)

-- what is found, or else what is found after it
abbrev pub or_found : Option Change → Option Change → Option Change
or_found None more = more
or_found (Some c) more = Some c

or_found-cond : (b : Bool) (c : Change) (x y : Option Change) → cond b (Some c) (or_found x y) ≡ or_found (cond b (Some c) x) y
or_found-cond true c x y = refl
or_found-cond false c x y = refl

find-append : (p : Change → Bool) (xs ys : List Change) → find p (xs ++ ys) ≡ or_found (find p xs) (find p ys)
find-append p [] ys = refl
find-append p (x ∷ xs) ys = ap (cond (p x) (Some x)) (find-append p xs ys) ∙ or_found-cond (p x) x (find p xs) (find p ys)

-- the changes of an item, with one change more
pub of_item-more : (item : ℕ) (cs : List Change) (c : Change) → of_item item (cs ++ c ∷ []) ≡ of_item item cs ++ cond (c.item == item) (c ∷ []) []
of_item-more item cs c = filter-append (λ d. d.item == item) cs (c ∷ [])

-- the last change of an item, with one change more
pub last_of-more : (item : ℕ) (cs : List Change) (c : Change) → last_of item (cs ++ c ∷ []) ≡ cond (c.item == item) (Some c) (last_of item cs)
last_of-more item cs c = ap (find (λ d. d.item == item)) (reverse-append cs (c ∷ []))

newest_step : (b : Bool) (c : Change) (cs : List Change) → or_found (newest cs) (cond b (Some c) None) ≡ newest (cond b (c ∷ cs) cs)
newest_step true c [] = refl
newest_step true c (d ∷ ds) = refl
newest_step false c [] = refl
newest_step false c (d ∷ ds) = refl

-- the last change of an item is the last of its changes
pub last_of-newest : (item : ℕ) (cs : List Change) → last_of item cs ≡ newest (of_item item cs)
last_of-newest item [] = refl
last_of-newest item (c ∷ cs) =
    ap (find (λ d. d.item == item)) (reverse-append (c ∷ []) cs)
    ∙ find-append (λ d. d.item == item) (reverse cs) (c ∷ [])
    ∙ ap (λ r. or_found r (cond (c.item == item) (Some c) None)) (last_of-newest item cs)
    ∙ newest_step (c.item == item) c (of_item item cs)

-- what is not refused follows
follows_test : (last change : Change) (later same : Bool) → is_before (stamp_of last) (stamp_of change) ≡ later → int_eq change.value last.value ≡ same
    → (if not later then Some (TimeNotRising (stamp_of last)) else if same then Some SameValue else None) ≡ None → Follows last change
follows_test last change false same l s h = absurd cc
follows_test last change true true l s h = absurd cc
follows_test last change true false l s h = record {
  later = l;
  differs = λ e. absurd (cc ((Decides-int_eq change.value last.value).1 (sym e)));
}

pub follows_last : (last change : Change) → refusal_after (Some last) change ≡ None → Follows last change
follows_last last change h = follows_test last change _ _ refl refl h

rises_on : (c : Change) (cs : List Change) (d : Change) → RisesAfter c cs → Follows (newest_from c cs) d → RisesAfter c (cs ++ d ∷ [])
rises_on c [] d h f = (f, tt)
rises_on c (e ∷ es) d h f = (h.0, rises_on e es d h.1 f)

-- a change that follows the last one keeps the rise
pub rises_more : (cs : List Change) (d : Change) → Rises cs → refusal_after (newest cs) d ≡ None → Rises (cs ++ d ∷ [])
rises_more [] d h f = tt
rises_more (c ∷ cs) d h f = rises_on c cs d h (follows_last _ d f)

rises_item : (b : Bool) (cs : List Change) (d : Change) → Rises cs → (b ≡ true → refusal_after (newest cs) d ≡ None) → Rises (cs ++ cond b (d ∷ []) [])
rises_item true cs d h f = rises_more cs d h (f refl)
rises_item false cs d h f = let P : List Change → Type 0 = Rises in subst P (sym (append-nil cs)) h

refusal_same : (c : Change) (cs : List Change) (item : ℕ) → (c.item == item) ≡ true → refusal_after (last_of c.item cs) c ≡ None
    → refusal_after (newest (of_item item cs)) c ≡ None
refusal_same c cs item e h = let is : c.item ≡ item = grind (arith, nat_tests) in
    ap (λ o. refusal_after o c) (sym (last_of-newest item cs) ∙ ap (λ n. last_of n cs) (sym is)) ∙ h

have_picos : (cs : List Change) (c : Change) → HavePicos cs → c.pico ≤ 9999 → HavePicos (cs ++ c ∷ [])
have_picos [] c h few = (few, tt)
have_picos (d ∷ cs) c h few = (h.0, have_picos cs c h.1 few)

-- a change that is not refused keeps the source
pub source_more : (cs : List Change) (c : Change) → c.pico ≤ 9999 → IsSource cs → refusal_after (last_of c.item cs) c ≡ None → IsSource (cs ++ c ∷ [])
source_more cs c few h f = record {
  picos = have_picos cs c h.picos few;
  rises = λ item. let P : List Change → Type 0 = Rises in
      subst P (sym (of_item-more item cs c)) (rises_item (c.item == item) (of_item item cs) c (h.rises item) (λ e. refusal_same c cs item e f));
}

-- a test that refuses nothing found the source not full, and nothing against the item's last change
guarded : (b : Bool) (e : SourceFault) (r : Option SourceFault) → cond b (Some e) r ≡ None → r ≡ None
guarded true e r h = absurd cc
guarded false e r h = h

pub allowed_after : (cs : List Change) (c : Change) → refusal cs c ≡ None → refusal_after (last_of c.item cs) c ≡ None
allowed_after cs c h = guarded (nat_le 200000 (length cs)) Full (refusal_after (last_of c.item cs) c) h

lasts_at : (lasts : List (Option Change)) (cs : List Change) (c : Change) (item : ℕ) → length lasts ≡ 256 → c.item < 256 → AreLasts lasts cs → item < 256
    → (b : Bool) → (c.item == item) ≡ b → slice_index_or (slice_set lasts c.item (Some c)) item None ≡ cond b (Some c) (last_of item cs)
lasts_at lasts cs c item long within h under true e =
    let is : item ≡ c.item = grind (arith, nat_tests) in
    get_or-set_at lasts c.item item (Some c) None is (omega arith)
lasts_at lasts cs c item long within h under false e =
    let apart : item ≢ c.item = grind (arith, nat_tests) in
    get_or-set_other lasts c.item item (Some c) None apart ∙ h.each item under

-- the table of last changes, with one change more
pub lasts_more : (lasts : List (Option Change)) (cs : List Change) (c : Change) → length lasts ≡ 256 → c.item < 256 → AreLasts lasts cs
    → AreLasts (slice_set lasts c.item (Some c)) (cs ++ c ∷ [])
lasts_more lasts cs c long within h = record {
  each = λ item under. lasts_at lasts cs c item long within h under _ refl ∙ sym (last_of-more item cs c);
}

-- the end of no changes
pub no_end_is : (end : End) → end ≡ no_end → IsEndOf end []
no_end_is end e = let P : End → Type 0 = λ x. IsEndOf x [] in subst P (sym e) (record {
  count_is = refl;
  wide = length-replicate {A = Option Change} 256 None;
  lasts_are = record { each = λ item under. get_or-replicate 256 item None None under };
})

-- the end after one change more
pub end_more : (end : End) (cs : List Change) (c : Change) → c.item < 256 → IsEndOf end cs → IsEndOf (end_after end c) (cs ++ c ∷ [])
end_more end cs c within h = record {
  count_is = ap (λ n. n + 1) h.count_is ∙ sym (length-append cs (c ∷ []));
  wide = length-set end.lasts c.item (Some c) ∙ h.wide;
  lasts_are = lasts_more end.lasts cs c h.wide within h.lasts_are;
}

-- the end refuses what its source refuses
pub refusal_is : (end : End) (cs : List Change) (c : Change) → c.item < 256 → IsEndOf end cs → refusal_at end c ≡ refusal cs c
refusal_is end cs c within h =
    ap (λ n. if nat_le 200000 n then Some Full else refusal_after (last_at c.item end) c) h.count_is
    ∙ ap (λ o. if nat_le 200000 (length cs) then Some Full else refusal_after o c) (h.lasts_are.each c.item within)

empty_is : (end : End) (cs : List Change) → end ≡ no_end → [] ≡ cs → IsEndOf end cs × IsSource cs
empty_is end cs l e = let P : List Change → Type 0 = λ n. IsEndOf end n × IsSource n in
    subst P e (no_end_is end l, record { rises = λ item. tt; picos = tt })

-- an empty source is one
pub empty_stands : (end : End) (cs : List Change) → end ≡ no_end → cs ≡ [] → IsEndOf end cs × IsSource cs
empty_stands end cs l e = empty_is end cs l (sym e)

-- a source with one change more is one
pub more_stands : (end new : End) (cs ds : List Change) (c : Change) → c.item < 256 → c.pico ≤ 9999 → refusal cs c ≡ None → IsEndOf end cs × IsSource cs
    → new ≡ end_after end c → ds ≡ cs ++ c ∷ [] → IsEndOf new ds × IsSource ds
more_stands end new cs ds c within few free h n e =
    let P : List Change → Type 0 = λ x. IsEndOf new x × IsSource x in
    let Q : End → Type 0 = λ x. IsEndOf x (cs ++ c ∷ []) in
    subst P (sym e) (subst Q (sym n) (end_more end cs c within h.0), source_more cs c few h.1 (allowed_after cs c free))

-- the changes of an item, where one of them stands between others
pub of_item-between : (item : ℕ) (cs : List Change) (c : Change) (ds : List Change) → (c.item == item) ≡ true
    → of_item item (cs ++ c ∷ ds) ≡ of_item item cs ++ c ∷ of_item item ds
of_item-between item cs c ds is = filter-append (λ d. d.item == item) cs (c ∷ ds)
    ∙ ap (λ b. of_item item cs ++ cond b (c ∷ of_item item ds) (of_item item ds)) is

follows_among : (a : Change) (cs : List Change) (c : Change) (ds : List Change) → RisesAfter a (cs ++ c ∷ ds) → Follows (newest_from a cs) c
follows_among a [] c ds h = h.0
follows_among a (b ∷ cs) c ds h = follows_among b cs c ds h.1

unrefused_test : (last change : Change) (later same : Bool) → is_before (stamp_of last) (stamp_of change) ≡ later → int_eq change.value last.value ≡ same → Follows last change
    → (if not later then Some (TimeNotRising (stamp_of last)) else if same then Some SameValue else None) ≡ None
unrefused_test last change false same l s f = let e : false ≡ true = sym l ∙ f.later in absurd cc
unrefused_test last change true true l s f = absurd (f.differs (sym ((Decides-int_eq change.value last.value).0 s)))
unrefused_test last change true false l s f = refl

unrefused_after : (cs : List Change) (c : Change) (ds : List Change) → Rises (cs ++ c ∷ ds) → refusal_after (newest cs) c ≡ None
unrefused_after [] c ds h = refl
unrefused_after (a ∷ cs) c ds h = unrefused_test (newest_from a cs) c _ _ refl refl (follows_among a cs c ds h)

not_full : (b : Bool) (n : ℕ) (r : Option SourceFault) → nat_le 200000 n ≡ b → n < 200000 → r ≡ None → cond b (Some Full) r ≡ None
not_full true n r is few h = absurd (grind (arith, nat_tests))
not_full false n r is few h = h

-- no change of a source that is not too long is refused after those before it
pub allowed_in_source : (cs : List Change) (c : Change) (ds : List Change) → IsSource (cs ++ c ∷ ds) → length cs < 200000 → refusal cs c ≡ None
allowed_in_source cs c ds h few =
    let P : List Change → Type 0 = Rises in
    let here : (c.item == c.item) ≡ true = grind (arith, nat_tests) in
    let rises = subst P (of_item-between c.item cs c ds here) (h.rises c.item) in
    not_full _ (length cs) (refusal_after (last_of c.item cs) c) refl few
    (ap (λ o. refusal_after o c) (last_of-newest c.item cs) ∙ unrefused_after (of_item c.item cs) c (of_item c.item ds) rises)
