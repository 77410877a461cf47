-- Safety as a walk over the log that says how many places it has used at its end.
use Rattle.std.proofs.Common.{◌≡◌, ◌==◌, ℕ, ◌+◌, ◌<◌, ◌≤◌, ◌⊎◌, inl, inr, List, [], ◌∷◌, ◌++◌, Bool, true, false, cond, Option, Some, None, IsSomeAnd, slice_get, refl, sym, ◌∙◌, ap, subst, arith}
use Rattle.std.specs.Prelude.{if◌then◌else◌}
use Rattle.set_model.specs.declared.line.Arrived.{Arrived}
use Rattle.set_model.specs.declared.line.Seen.{Seen}
use Rattle.set_model.specs.declared.source.Change.{Change}
use Rattle.set_model.specs.declared.stamp.Stamp.{Stamp}
use Rattle.set_model.specs.Source.{stamp_of, Rises}
use Rattle.set_model.specs.Stamp.{is_before}
use Rattle.delivery_log.specs.declared.rule.Joint.{Joint}
use Rattle.delivery_log.specs.declared.rule.Joint.TheVariants.{Joined, Open, Held}
use Rattle.delivery_log.specs.declared.rule.Verdict.{Verdict}
use Rattle.delivery_log.specs.declared.rule.Verdict.TheVariants.{Nothing, Deliver, GapDeliver}
use Rattle.delivery_log.specs.Judge.{later, verdict_after, verdict_of}
use Rattle.delivery_log.specs.Log.{timed_lines}
use Rattle.delivery_log.specs.Safe.{Part, DataLine, GapLine, OtherLine, HeardLine, parts_of, IsChangeAt, MaySkip, SafeFrom, InOrderFrom}
use Rattle.delivery_log.proofs.Places.{before_from_stamp}

-- where gaps are told, what may be skipped; else all
abbrev pub SkipsIf : Bool → ℕ → ℕ → Bool → Type 0
SkipsIf true used place gap = MaySkip used place gap
SkipsIf false used place gap = Unit {0}

-- `SafeFrom` (told) or `InOrderFrom` (not told), ending with so many places used and no gap line before what follows
abbrev pub WalksTo : Bool → List Change → ℕ → Bool → List Part → ℕ → Type 0
WalksTo told changes used gap [] after = (gap ≡ false) × (used ≡ after)
WalksTo told changes used gap (DataLine stamp value ∷ rest) after =
    (place : ℕ) × IsChangeAt changes place stamp value × (used ≤ place) × SkipsIf told used place gap × WalksTo told changes (place + 1) false rest after
WalksTo told changes used gap (GapLine ∷ rest) after = WalksTo told changes used true rest after
WalksTo told changes used gap (OtherLine ∷ rest) after = WalksTo told changes used false rest after
WalksTo told changes used gap (HeardLine ∷ rest) after = WalksTo told changes used gap rest after

-- one walk after another
pub walk_on : (told : Bool) (cs : List Change) (used : ℕ) (gap : Bool) (xs ys : List Part) (between after : ℕ)
    → WalksTo told cs used gap xs between → WalksTo told cs between false ys after → WalksTo told cs used gap (xs ++ ys) after
walk_on told cs used gap [] ys between after h k =
    let P : Bool → Type 0 = λ g. WalksTo told cs used g ys after in
    let Q : ℕ → Type 0 = λ u. WalksTo told cs u false ys after in
    subst P (sym h.0) (subst Q (sym h.1) k)
walk_on told cs used gap (DataLine stamp value ∷ xs) ys between after h k =
    (h.0, h.1, h.2, h.3, walk_on told cs (h.0 + 1) false xs ys between after h.4 k)
walk_on told cs used gap (GapLine ∷ xs) ys between after h k = walk_on told cs used true xs ys between after h k
walk_on told cs used gap (OtherLine ∷ xs) ys between after h k = walk_on told cs used false xs ys between after h k
walk_on told cs used gap (HeardLine ∷ xs) ys between after h k = walk_on told cs used gap xs ys between after h k

pub safe_from_walk : (cs : List Change) (used : ℕ) (gap : Bool) (xs : List Part) (after : ℕ) → WalksTo true cs used gap xs after → SafeFrom cs used gap xs
safe_from_walk cs used gap [] after h = tt
safe_from_walk cs used gap (DataLine stamp value ∷ xs) after h = (h.0, record { shows = h.1; forward = h.2; skip = h.3 }, safe_from_walk cs (h.0 + 1) false xs after h.4)
safe_from_walk cs used gap (GapLine ∷ xs) after h = safe_from_walk cs used true xs after h
safe_from_walk cs used gap (OtherLine ∷ xs) after h = safe_from_walk cs used false xs after h
safe_from_walk cs used gap (HeardLine ∷ xs) after h = safe_from_walk cs used gap xs after h

pub in_order_from_walk : (cs : List Change) (used : ℕ) (gap : Bool) (xs : List Part) (after : ℕ) → WalksTo false cs used gap xs after → InOrderFrom cs used xs
in_order_from_walk cs used gap [] after h = tt
in_order_from_walk cs used gap (DataLine stamp value ∷ xs) after h = (h.0, h.1, h.2, in_order_from_walk cs (h.0 + 1) false xs after h.4)
in_order_from_walk cs used gap (GapLine ∷ xs) after h = in_order_from_walk cs used true xs after h
in_order_from_walk cs used gap (OtherLine ∷ xs) after h = in_order_from_walk cs used false xs after h
in_order_from_walk cs used gap (HeardLine ∷ xs) after h = in_order_from_walk cs used gap xs after h

pub in_order_from_safe : (cs : List Change) (used : ℕ) (gap : Bool) (xs : List Part) → SafeFrom cs used gap xs → InOrderFrom cs used xs
in_order_from_safe cs used gap [] h = tt
in_order_from_safe cs used gap (DataLine stamp value ∷ xs) h = (h.0, h.1.shows, h.1.forward, in_order_from_safe cs (h.0 + 1) false xs h.2)
in_order_from_safe cs used gap (GapLine ∷ xs) h = in_order_from_safe cs used true xs h
in_order_from_safe cs used gap (OtherLine ∷ xs) h = in_order_from_safe cs used false xs h
in_order_from_safe cs used gap (HeardLine ∷ xs) h = in_order_from_safe cs used gap xs h

-- the parts that an entry's lines are to its own item, and to another one
abbrev pub own_parts : Stamp → Seen → Verdict → List Part
own_parts stamp value Nothing = []
own_parts stamp value Deliver = DataLine stamp value ∷ []
own_parts stamp value (GapDeliver cause) = GapLine ∷ DataLine stamp value ∷ []

abbrev pub other_parts : Verdict → List Part
other_parts Nothing = []
other_parts Deliver = OtherLine ∷ []
other_parts (GapDeliver cause) = OtherLine ∷ OtherLine ∷ []

pub parts_of_own : (item : ℕ) (stamp : Stamp) (entry : Arrived) (verdict : Verdict) → (b : Bool) → (item == item) ≡ b → b ≡ true
    → parts_of item (timed_lines item stamp entry verdict) ≡ own_parts stamp entry.value verdict
parts_of_own item stamp entry Nothing b e is = refl
parts_of_own item stamp entry Deliver b e is = ap (λ t. cond t (DataLine stamp entry.value) OtherLine ∷ []) (e ∙ is)
parts_of_own item stamp entry (GapDeliver cause) b e is = ap (λ t. cond t GapLine OtherLine ∷ cond t (DataLine stamp entry.value) OtherLine ∷ []) (e ∙ is)

pub parts_of_other : (i item : ℕ) (stamp : Stamp) (entry : Arrived) (verdict : Verdict) → (i == item) ≡ false
    → parts_of item (timed_lines i stamp entry verdict) ≡ other_parts verdict
parts_of_other i item stamp entry Nothing e = refl
parts_of_other i item stamp entry Deliver e = ap (λ t. cond t (DataLine stamp entry.value) OtherLine ∷ []) e
parts_of_other i item stamp entry (GapDeliver cause) e = ap (λ t. cond t GapLine OtherLine ∷ cond t (DataLine stamp entry.value) OtherLine ∷ []) e

-- the places used are those up to the change of the stamp last delivered
pub record IsLastAt (changes : List Change) (used : ℕ) (stamp : Stamp) : Type 0 where
  pub place : ℕ
  pub change : Change
  pub here : slice_get changes place ≡ Some change
  pub stamp_is : stamp ≡ stamp_of change
  pub used_is : used ≡ place + 1

abbrev pub IsLast : List Change → ℕ → Option Stamp → Type 0
IsLast changes used None = used ≡ 0
IsLast changes used (Some stamp) = IsLastAt changes used stamp

-- the walk goes on over these parts, to this stamp last delivered
pub record WalksOn (told : Bool) (changes : List Change) (used : ℕ) (parts : List Part) (last : Option Stamp) : Type 0 where
  pub after : ℕ
  pub walk : WalksTo told changes used false parts after
  pub last_is : IsLast changes after last

pub stays : (told : Bool) (cs : List Change) (used : ℕ) (last : Option Stamp) → IsLast cs used last → WalksOn told cs used [] last
stays told cs used last h = record { after = used; walk = (refl, refl); last_is = h }

pub stays_other : (told : Bool) (cs : List Change) (used : ℕ) (last : Option Stamp) (verdict : Verdict) → IsLast cs used last → WalksOn told cs used (other_parts verdict) last
stays_other told cs used last Nothing h = stays told cs used last h
stays_other told cs used last Deliver h = record { after = used; walk = (refl, refl); last_is = h }
stays_other told cs used last (GapDeliver cause) h = record { after = used; walk = (refl, refl); last_is = h }

last_here : (cs : List Change) (place : ℕ) (stamp : Stamp) (value : Seen) → IsChangeAt cs place stamp value → IsLastAt cs (place + 1) stamp
last_here cs place stamp value h = record { place = place; change = h.change; here = h.here; stamp_is = h.stamp_is; used_is = refl }

skips_if : (told : Bool) (used place : ℕ) (gap : Bool) → (told ≡ true → MaySkip used place gap) → SkipsIf told used place gap
skips_if true used place gap h = h refl
skips_if false used place gap h = tt

may_skip : (used place : ℕ) → (used ≡ 0) ⊎ (used ≡ place) → MaySkip used place false
may_skip used place (inl none) = inl none
may_skip used place (inr next) = inr (inl next)

-- a change is delivered, without a gap line before it
on_to : (told : Bool) (cs : List Change) (used place : ℕ) (stamp : Stamp) (value : Seen) → IsChangeAt cs place stamp value → used ≤ place
    → (told ≡ true → (used ≡ 0) ⊎ (used ≡ place)) → WalksOn told cs used (own_parts stamp value Deliver) (Some stamp)
on_to told cs used place stamp value h most skip = record {
  after = place + 1;
  walk = (place, h, most, skips_if told used place false (λ t. may_skip used place (skip t)), (refl, refl));
  last_is = last_here cs place stamp value h;
}

-- a change is delivered, with a gap line before it
over_gap : (told : Bool) (cs : List Change) (used place : ℕ) (stamp : Stamp) (value : Seen) → IsChangeAt cs place stamp value → used ≤ place
    → WalksOn told cs used (GapLine ∷ DataLine stamp value ∷ []) (Some stamp)
over_gap told cs used place stamp value h most = record {
  after = place + 1;
  walk = (place, h, most, skips_if told used place true (λ t. inr (inr refl)), (refl, refl));
  last_is = last_here cs place stamp value h;
}

-- an entry above the last data line is delivered, by its joint and mark
above : (told : Bool) (cs : List Change) (used place : ℕ) (stamp : Stamp) (value : Seen) (joint : Joint) (marked : Bool) → IsChangeAt cs place stamp value → used ≤ place
    → (told ≡ true → joint ≡ Joined → marked ≡ false → place ≤ used) → WalksOn told cs used (own_parts stamp value (verdict_after joint marked)) (Some stamp)
above told cs used place stamp value (Open cause) marked h most next = over_gap told cs used place stamp value h most
above told cs used place stamp value Held marked h most next = over_gap told cs used place stamp value h most
above told cs used place stamp value Joined true h most next = over_gap told cs used place stamp value h most
above told cs used place stamp value Joined false h most next =
    on_to told cs used place stamp value h most (λ t. inr (let least : place ≤ used = next t refl refl in omega arith))

-- the places used are not above that of a later change
used_before : (cs : List Change) (used : ℕ) (last : Stamp) (place : ℕ) (stamp : Stamp) (value : Seen) → Rises cs → IsLastAt cs used last → IsChangeAt cs place stamp value → is_before last stamp ≡ true → used ≤ place
used_before cs used last place stamp value rises l h less =
    let P : Stamp → Type 0 = λ t. is_before t stamp ≡ true in
    let Q : Stamp → Type 0 = λ t. is_before (stamp_of l.change) t ≡ true in
    let early : is_before (stamp_of l.change) (stamp_of h.change) ≡ true = subst Q h.stamp_is (subst P l.stamp_is less) in
    let before : l.place < place = before_from_stamp cs l.place place l.change h.change rises early l.here h.here in
    let is : used ≡ l.place + 1 = l.used_is in
    omega arith

some_step : (told : Bool) (cs : List Change) (used : ℕ) (last : Stamp) (joint : Joint) (place : ℕ) (stamp : Stamp) (value : Seen) (marked : Bool)
    → Rises cs → IsLastAt cs used last → IsChangeAt cs place stamp value → (told ≡ true → joint ≡ Joined → marked ≡ false → place ≤ used)
    → (b : Bool) → is_before last stamp ≡ b
    → WalksOn told cs used (own_parts stamp value (if b then verdict_after joint marked else Nothing)) (if b then Some stamp else Some last)
some_step told cs used last joint place stamp value marked rises l h next false e = stays told cs used (Some last) l
some_step told cs used last joint place stamp value marked rises l h next true e =
    above told cs used place stamp value joint marked h (used_before cs used last place stamp value rises l h e) next

-- an entry of the item that is a change of it keeps the walk
pub own_step : (told : Bool) (cs : List Change) (used : ℕ) (last : Option Stamp) (joint : Joint) (place : ℕ) (stamp : Stamp) (value : Seen) (marked : Bool)
    → Rises cs → IsLast cs used last → IsChangeAt cs place stamp value → (told ≡ true → joint ≡ Joined → marked ≡ false → IsSomeAnd last (λ l. place ≤ used))
    → WalksOn told cs used (own_parts stamp value (verdict_of last joint (Some stamp) marked)) (later last (Some stamp))
own_step told cs used None joint place stamp value marked rises l h next =
    on_to told cs used place stamp value h (omega arith) (λ t. inl l)
own_step told cs used (Some last) joint place stamp value marked rises l h next =
    some_step told cs used last joint place stamp value marked rises l h next (is_before last stamp) refl
