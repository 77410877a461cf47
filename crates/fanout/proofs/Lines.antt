-- Each listener is told its lines.
use Rattle.std.proofs.Common.{◌≡◌, ℕ, ◌+◌, ◌≤◌, ◌==◌, List, [], ◌∷◌, ◌++◌, Bool, true, false, cond, Option, Some, None, length, refl, sym, ◌∙◌, ap, subst, arith, append_assoc, length-append, inl, inr}
use Rattle.std.specs.Prelude.{MatchBool}
use Rattle.std.proofs.lemmas.List.{append-nil}
use Rattle.set_model.specs.declared.line.LogLine.{LogLine}
use Rattle.set_model.specs.declared.line.LogLine.TheVariants as line
use Rattle.fanout.specs.declared.hearing.Tally.{Tally}
use Rattle.fanout.specs.Hearing.{Hearing, Hears, lines_with, tally_with}
use Rattle.fanout.specs.State.{Attached, attached}
use Rattle.fanout.specs.Calls.{Call, Attach, Detach, Tell, Outcome, Stays, Stops, Become, is_for, is_full, staying, with_one_more, without}
use Rattle.fanout.specs.History.{AreToldTheirLines, Beginning, CanBe, HeardMore, History, IsToldItsLines, begins, changes_in, gaps_in, line_of, state_after, with_lines}

-- ---- counts of more lines

plus_one : (n m k : ℕ) → n ≡ m + k → n + 1 ≡ m + 1 + k
plus_one n m k is = omega arith

changes_more : (xs ys : List LogLine) → changes_in (xs ++ ys) ≡ changes_in xs + changes_in ys
changes_more [] ys = let same : changes_in ys ≡ 0 + changes_in ys = omega arith in same
changes_more (line.Delivered item time pico value status ∷ xs) ys = plus_one _ _ _ (changes_more xs ys)
changes_more (line.Gap item cause ∷ xs) ys = changes_more xs ys
changes_more (line.Switch from to ∷ xs) ys = changes_more xs ys
changes_more (line.Ready server ∷ xs) ys = changes_more xs ys
changes_more (line.Lost server ∷ xs) ys = changes_more xs ys
changes_more (line.Unsupported server ∷ xs) ys = changes_more xs ys
changes_more (line.Heard listener changes gaps ∷ xs) ys = changes_more xs ys
changes_more (line.Done changes ∷ xs) ys = changes_more xs ys

gaps_more : (xs ys : List LogLine) → gaps_in (xs ++ ys) ≡ gaps_in xs + gaps_in ys
gaps_more [] ys = let same : gaps_in ys ≡ 0 + gaps_in ys = omega arith in same
gaps_more (line.Delivered item time pico value status ∷ xs) ys = gaps_more xs ys
gaps_more (line.Gap item cause ∷ xs) ys = plus_one _ _ _ (gaps_more xs ys)
gaps_more (line.Switch from to ∷ xs) ys = gaps_more xs ys
gaps_more (line.Ready server ∷ xs) ys = gaps_more xs ys
gaps_more (line.Lost server ∷ xs) ys = gaps_more xs ys
gaps_more (line.Unsupported server ∷ xs) ys = gaps_more xs ys
gaps_more (line.Heard listener changes gaps ∷ xs) ys = gaps_more xs ys
gaps_more (line.Done changes ∷ xs) ys = gaps_more xs ys

with_lines_more : (o : Option (List LogLine)) (xs ys : List LogLine) → with_lines (with_lines o xs) ys ≡ with_lines o (xs ++ ys)
with_lines_more None xs ys = refl
with_lines_more (Some lines) xs ys = ap Some (append_assoc lines xs ys)

with_no_lines : (o : Option (List LogLine)) → o ≡ with_lines o []
with_no_lines None = refl
with_no_lines (Some lines) = sym (ap Some (append-nil lines))

-- ---- what was heard

heard_none : (h : Hearing) → HeardMore [] h h
heard_none h =
    let c : h.tally.changes ≡ h.tally.changes + 0 = omega arith in
    let g : h.tally.gaps ≡ h.tally.gaps + 0 = omega arith in
    let s : h.spare ≤ h.spare + 0 = omega arith in
    record { changes = c; gaps = g; lines = with_no_lines h.lines; spare = s }

heard_join : (xs ys : List LogLine) (a b c : Hearing) → HeardMore xs a b → HeardMore ys b c → HeardMore (xs ++ ys) a c
heard_join xs ys a b c first second =
    let changes = changes_more xs ys in
    let gaps = gaps_more xs ys in
    let size = length-append xs ys in
    let c1 : b.tally.changes ≡ a.tally.changes + changes_in xs = first.changes in
    let c2 : c.tally.changes ≡ b.tally.changes + changes_in ys = second.changes in
    let g1 : b.tally.gaps ≡ a.tally.gaps + gaps_in xs = first.gaps in
    let g2 : c.tally.gaps ≡ b.tally.gaps + gaps_in ys = second.gaps in
    let s1 : a.spare ≤ b.spare + length xs = first.spare in
    let s2 : b.spare ≤ c.spare + length ys = second.spare in
    record {
      changes = omega arith;
      gaps = omega arith;
      lines = second.lines ∙ ap (λ o. with_lines o ys) first.lines ∙ with_lines_more a.lines xs ys;
      spare = omega arith;
    }

one_change : (told : LogLine) (t : Tally) → (tally_with told t).changes ≡ t.changes + changes_in (told ∷ [])
one_change (line.Delivered item time pico value status) t = omega arith
one_change (line.Gap item cause) t = omega arith
one_change (line.Switch from to) t = omega arith
one_change (line.Ready server) t = omega arith
one_change (line.Lost server) t = omega arith
one_change (line.Unsupported server) t = omega arith
one_change (line.Heard listener changes gaps) t = omega arith
one_change (line.Done changes) t = omega arith

one_gap : (told : LogLine) (t : Tally) → (tally_with told t).gaps ≡ t.gaps + gaps_in (told ∷ [])
one_gap (line.Delivered item time pico value status) t = omega arith
one_gap (line.Gap item cause) t = omega arith
one_gap (line.Switch from to) t = omega arith
one_gap (line.Ready server) t = omega arith
one_gap (line.Lost server) t = omega arith
one_gap (line.Unsupported server) t = omega arith
one_gap (line.Heard listener changes gaps) t = omega arith
one_gap (line.Done changes) t = omega arith

one_line : (told : LogLine) (o : Option (List LogLine)) → lines_with told o ≡ with_lines o (told ∷ [])
one_line told None = refl
one_line told (Some lines) = refl

heard_one : (told : LogLine) (old new : Hearing) → Hears told old new → HeardMore (told ∷ []) old new
heard_one told old new hears = record {
  changes = ap (λ (t : Tally). t.changes) hears.tally ∙ one_change told old.tally;
  gaps = ap (λ (t : Tally). t.gaps) hears.tally ∙ one_gap told old.tally;
  lines = hears.lines ∙ one_line told old.lines;
  spare = hears.spare;
}

heard_told_by : (told : LogLine) (outcomes : List Outcome) (item : ℕ) (old new : Hearing) (t : Bool) → is_for told item ≡ t
    → MatchBool (is_for told item) (Hears told old new) (new ≡ old) → HeardMore (line_of (Tell told outcomes) item) old new
heard_told_by told outcomes item old new true is relation =
    let P : Bool → Type 0 = λ t. MatchBool t (Hears told old new) (new ≡ old) in
    let Q : Bool → Type 0 = λ t. HeardMore (cond t (told ∷ []) []) old new in
    subst Q (sym is) (heard_one told old new (subst P is relation))
heard_told_by told outcomes item old new false is relation =
    let P : Bool → Type 0 = λ t. MatchBool t (Hears told old new) (new ≡ old) in
    let Q : Bool → Type 0 = λ t. HeardMore (cond t (told ∷ []) []) old new in
    let R : Hearing → Type 0 = λ h. HeardMore [] old h in
    subst Q (sym is) (subst R (sym (subst P is relation)) (heard_none old))

-- ---- one call more

goes_on : (call : Call) (earlier : History) (old new : Attached) → new.id ≡ old.id → new.item ≡ old.item
    → HeardMore (line_of call old.item) old.hearing new.hearing → IsToldItsLines earlier old → IsToldItsLines (call ∷ earlier) new
goes_on call earlier old new id item heard told =
    let P : ℕ → Type 0 = λ n. HeardMore (line_of call n) old.hearing new.hearing in
    let more = subst P (sym told.item) heard in
    record {
      beginning = told.beginning;
      lines = told.lines ++ line_of call told.beginning.item;
      id = told.id ∙ sym id;
      item = told.item ∙ sym item;
      began = inr (told.lines, told.began, refl);
      heard = heard_join told.lines (line_of call told.beginning.item) told.beginning.hearing old.hearing new.hearing told.heard more;
    }

all_told : (told : LogLine) (outcomes given : List Outcome) (earlier : History) (xs : List Attached) → Become told xs outcomes
    → AreToldTheirLines earlier xs → AreToldTheirLines (Tell told given ∷ earlier) (staying outcomes)
all_told told [] given earlier [] become lines = tt {0}
all_told told (o ∷ outcomes) given earlier [] become lines = absurd become
all_told told [] given earlier (x ∷ xs) become lines = absurd become
all_told told (Stays new ∷ outcomes) given earlier (x ∷ xs) become lines = (
  goes_on (Tell told given) earlier x new become.0.id become.0.item (heard_told_by told given x.item x.hearing new.hearing (is_for told x.item) refl become.0.hearing) lines.0,
  all_told told outcomes given earlier xs become.1 lines.1,
)
all_told told (Stops stopped ∷ outcomes) given earlier (x ∷ xs) become lines = all_told told outcomes given earlier xs become.1 lines.1

all_attached : (item : ℕ) (hearing : Hearing) (earlier : History) (xs : List Attached) → AreToldTheirLines earlier xs → AreToldTheirLines (Attach item hearing ∷ earlier) xs
all_attached item hearing earlier [] lines = tt {0}
all_attached item hearing earlier (x ∷ xs) lines =
    (goes_on (Attach item hearing) earlier x x refl refl (heard_none x.hearing) lines.0, all_attached item hearing earlier xs lines.1)

one_more : (history : History) (xs : List Attached) (one : Attached) → AreToldTheirLines history xs → IsToldItsLines history one → AreToldTheirLines history (xs ++ one ∷ [])
one_more history [] one lines last = (last, tt {0})
one_more history (x ∷ xs) one lines last = (lines.0, one_more history xs one lines.1 last)

attached_by : (item : ℕ) (hearing : Hearing) (earlier : History) (t : Bool) → is_full (state_after earlier) ≡ t
    → AreToldTheirLines earlier (state_after earlier).attached
    → AreToldTheirLines (Attach item hearing ∷ earlier) (state_after (Attach item hearing ∷ earlier)).attached
attached_by item hearing earlier true is lines =
    let P : Bool → Type 0 = λ t. AreToldTheirLines (Attach item hearing ∷ earlier) (cond t (state_after earlier) (with_one_more item hearing (state_after earlier))).attached in
    subst P (sym is) (all_attached item hearing earlier (state_after earlier).attached lines)
attached_by item hearing earlier false is lines =
    let P : Bool → Type 0 = λ t. AreToldTheirLines (Attach item hearing ∷ earlier) (cond t (state_after earlier) (with_one_more item hearing (state_after earlier))).attached in
    let id : ℕ = (state_after earlier).last + 1 in
    let first : Beginning = record { id = id; item = item; hearing = hearing } in
    let new = attached id item hearing in
    let begun : begins (Attach item hearing) (state_after earlier) ≡ Some first = ap (λ t. cond t None (Some first)) is in
    let told : IsToldItsLines (Attach item hearing ∷ earlier) new =
    record { beginning = first; lines = []; id = refl; item = refl; began = inl (begun, refl); heard = heard_none hearing } in
    subst P (sym is) (one_more (Attach item hearing ∷ earlier) (state_after earlier).attached new (all_attached item hearing earlier (state_after earlier).attached lines) told)

detached_by : (id : ℕ) (earlier : History) (x : Attached) (xs : List Attached) (t : Bool) → (x.id == id) ≡ t
    → IsToldItsLines (Detach id ∷ earlier) x → AreToldTheirLines (Detach id ∷ earlier) xs
    → AreToldTheirLines (Detach id ∷ earlier) (without id xs) → AreToldTheirLines (Detach id ∷ earlier) (without id (x ∷ xs))
detached_by id earlier x xs true is one all more =
    let P : Bool → Type 0 = λ t. AreToldTheirLines (Detach id ∷ earlier) (cond t xs (x ∷ without id xs)) in subst P (sym is) all
detached_by id earlier x xs false is one all more =
    let P : Bool → Type 0 = λ t. AreToldTheirLines (Detach id ∷ earlier) (cond t xs (x ∷ without id xs)) in subst P (sym is) (one, more)

all_still : (id : ℕ) (earlier : History) (xs : List Attached) → AreToldTheirLines earlier xs → AreToldTheirLines (Detach id ∷ earlier) xs
all_still id earlier [] lines = tt {0}
all_still id earlier (x ∷ xs) lines = (goes_on (Detach id) earlier x x refl refl (heard_none x.hearing) lines.0, all_still id earlier xs lines.1)

all_detached : (id : ℕ) (earlier : History) (xs : List Attached) → AreToldTheirLines earlier xs → AreToldTheirLines (Detach id ∷ earlier) (without id xs)
all_detached id earlier [] lines = tt {0}
all_detached id earlier (x ∷ xs) lines =
    detached_by id earlier x xs (x.id == id) refl (goes_on (Detach id) earlier x x refl refl (heard_none x.hearing) lines.0)
    (all_still id earlier xs lines.1) (all_detached id earlier xs lines.1)

pub told_lines : (history : History) → CanBe history → AreToldTheirLines history (state_after history).attached
told_lines [] can = tt {0}
told_lines (Attach item hearing ∷ earlier) can = attached_by item hearing earlier (is_full (state_after earlier)) refl (told_lines earlier can.1)
told_lines (Detach id ∷ earlier) can = all_detached id earlier (state_after earlier).attached (told_lines earlier can.1)
told_lines (Tell told outcomes ∷ earlier) can = all_told told outcomes outcomes earlier (state_after earlier).attached can.0 (told_lines earlier can.1)
