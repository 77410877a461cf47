-- The items that the calls of a subscription make.
use Rattle.std.proofs.Common.{◌≡◌, ℕ, ◌==◌, List, [], ◌∷◌, ◌++◌, Bool, true, false, cond, Some, refl, sym, ap, ◌∙◌, subst, append_assoc, arith, inl, inr}
use Rattle.std.specs.Prelude.{reverse}
use Rattle.std.proofs.lemmas.List.{append-nil, reverse-append}
use Rattle.std.proofs.lemmas.Bool.Decides.{nat_tests}
use Rattle.set_model.specs.declared.source.Change.{Change}
use Rattle.subscription.specs.declared.spec.ItemSpec.{ItemSpec}
use Rattle.subscription.specs.declared.spec.SubSpec.{SubSpec}
use Rattle.subscription.specs.State.{SubState}
use Rattle.subscription.specs.History.{Call, Feed, state_of}
use Rattle.server_laws.specs.Bounded.{items_in, items_made, made_by}
use Rattle.server_laws.specs.Facts.{IsWithin}
use Rattle.server_laws.specs.Lives.{Life, Lives, Over, Unborn, life_after}
use Rattle.server_laws.specs.Moves.{Acknowledges, Adds, Answers, Asks, Core, Cycles, Does, Doing, Enables, Ends, Enters, Goes, Issues, Makes, Modes, Modifies, Move, Removes, Repeats, Sends, call_of, moved}
use Rattle.server_laws.proofs.Within.{all_within, none_within, within_join, within_less}
use Rattle.server_makings.specs.Asked.{AreMadeOf, AskedItem, added_by, added_in, made_in}
use Rattle.server_makings.specs.Since.{IsMadeSince}
use Rattle.server_makings.proofs.Creating.{skip_one}

within_behind : {A : Type 0} (front xs ys : List A) → IsWithin xs ys → IsWithin xs (front ++ ys)
within_behind front xs ys h = within_join [] front xs ys (none_within front) h

-- ---- some of those that are made

pub fewer : (items : ℕ) (some all : List ItemSpec) (wants : List AskedItem) → IsWithin some all → AreMadeOf items all wants → AreMadeOf items some wants
fewer items some [] wants within h = subst (λ l. AreMadeOf items l wants) (sym within) tt
fewer items some (spec ∷ all) [] within h = absurd h
fewer items some (spec ∷ all) (one ∷ wants) within (inr h) = skip_one items some one wants (fewer items some (spec ∷ all) wants within h)
fewer items some (spec ∷ all) (one ∷ wants) (inl within) (inl h) = skip_one items some one wants (fewer items some all wants within h.1)
fewer items some (spec ∷ all) (one ∷ wants) (inr within) (inl h) =
    subst (λ l. AreMadeOf items l (one ∷ wants)) (sym within.1) (inl (h.0, fewer items within.0 all wants within.2 h.1))

-- ---- a call more

call_made : (doing : Doing) (current : List Change) (sub : SubState) → reverse (made_by (call_of doing current (Some sub))) ≡ added_by doing
call_made (Adds spec) current sub = refl
call_made (Removes id) current sub = refl
call_made (Modes id mode) current sub = refl
call_made (Cycles queued) current sub = refl
call_made (Sends now) current sub = refl
call_made (Acknowledges number) current sub = refl
call_made (Modifies spec now) current sub = refl
call_made (Enables enabled) current sub = refl
call_made Goes current sub = refl

-- in order
abbrev pub in_order : List Call → List ItemSpec
in_order calls = reverse (items_made calls)

more_items : (call : Call) (calls : List Call) (added more : List ItemSpec) → reverse (made_by call) ≡ added
    → in_order (call ∷ calls) ++ more ≡ in_order calls ++ (added ++ more)
more_items call calls added more is =
    ap (λ l. l ++ more) (reverse-append (made_by call) (items_made calls) ∙ ap (λ l. in_order calls ++ l) is)
    ∙ append_assoc (in_order calls) added more

same_life : (b : Bool) (life : Life) → cond b life life ≡ life
same_life true life = refl
same_life false life = refl

-- ---- one that is over stays so

over_stays : (id : ℕ) (moves : List Move) (c : Core) (spec : SubSpec) (start : ℕ) (calls : List Call)
    → life_after id moves c (Over spec start calls) ≡ Over spec start calls
over_stays id [] c spec start calls = refl
over_stays id (Makes new at ∷ moves) c spec start calls =
    ap (life_after id moves (moved (Makes new at) c)) (same_life (new.id == id) (Over spec start calls)) ∙ over_stays id moves (moved (Makes new at) c) spec start calls
over_stays id (Does other doing ∷ moves) c spec start calls =
    ap (life_after id moves (moved (Does other doing) c)) (same_life (other == id) (Over spec start calls)) ∙ over_stays id moves (moved (Does other doing) c) spec start calls
over_stays id (Enters change ∷ moves) c spec start calls = over_stays id moves (moved (Enters change) c) spec start calls
over_stays id (Ends other ∷ moves) c spec start calls =
    ap (life_after id moves (moved (Ends other) c)) (same_life (other == id) (Over spec start calls)) ∙ over_stays id moves (moved (Ends other) c) spec start calls
over_stays id (Asks call ∷ moves) c spec start calls = over_stays id moves (moved (Asks call) c) spec start calls
over_stays id (Issues ∷ moves) c spec start calls = over_stays id moves (moved Issues c) spec start calls
over_stays id (Repeats other number ∷ moves) c spec start calls = over_stays id moves c spec start calls
over_stays id (Answers answer ∷ moves) c spec start calls = over_stays id moves c spec start calls

-- ---- one that lives

-- where it still does, it is the same one, and these are all of its items; else they are among these
abbrev pub Grows : List ItemSpec → SubSpec → ℕ → Life → Type 0
Grows all spec start Unborn = ⊥
Grows all spec start (Lives other began calls) = (spec ≡ other) × (start ≡ began) × (in_order calls ≡ all)
Grows all spec start (Over other began calls) = IsWithin (in_order calls) all

does_grow : (b : Bool) (id : ℕ) (moves : List Move) (c : Core) (spec : SubSpec) (start : ℕ) (calls : List Call) (call : Call) (added : List ItemSpec)
    → reverse (made_by call) ≡ added → Grows (in_order (call ∷ calls) ++ made_in id moves) spec start (life_after id moves c (Lives spec start (call ∷ calls)))
    → Grows (in_order calls ++ made_in id moves) spec start (life_after id moves c (Lives spec start calls))
    → Grows (in_order calls ++ (cond b added [] ++ made_in id moves)) spec start (life_after id moves c (cond b (Lives spec start (call ∷ calls)) (Lives spec start calls)))
does_grow true id moves c spec start calls call added is h other =
    subst (λ all. Grows all spec start (life_after id moves c (Lives spec start (call ∷ calls)))) (more_items call calls added (made_in id moves) is) h
does_grow false id moves c spec start calls call added is h other = other

ends_grow : (b : Bool) (id : ℕ) (moves : List Move) (c : Core) (spec : SubSpec) (start : ℕ) (calls : List Call)
    → Grows (in_order calls ++ made_in id moves) spec start (life_after id moves c (Lives spec start calls))
    → Grows (in_order calls ++ made_in id moves) spec start (life_after id moves c (cond b (Over spec start calls) (Lives spec start calls)))
ends_grow true id moves c spec start calls other =
    subst (Grows (in_order calls ++ made_in id moves) spec start) (sym (over_stays id moves c spec start calls))
    (within_less (in_order calls) (in_order calls) (made_in id moves) (all_within (in_order calls)))
ends_grow false id moves c spec start calls other = other

grows : (id : ℕ) (moves : List Move) (c : Core) (spec : SubSpec) (start : ℕ) (calls : List Call)
    → Grows (in_order calls ++ made_in id moves) spec start (life_after id moves c (Lives spec start calls))
grows id [] c spec start calls = (refl, refl, sym (append-nil (in_order calls)))
grows id (Makes new at ∷ moves) c spec start calls =
    subst (λ life. Grows (in_order calls ++ made_in id moves) spec start (life_after id moves (moved (Makes new at) c) life)) (sym (same_life (new.id == id) (Lives spec start calls)))
    (grows id moves (moved (Makes new at) c) spec start calls)
grows id (Does other doing ∷ moves) c spec start calls =
    let call : Call = call_of doing c.current (Some (state_of spec start calls)) in
    does_grow (other == id) id moves (moved (Does other doing) c) spec start calls call (added_by doing) (call_made doing c.current (state_of spec start calls))
    (grows id moves (moved (Does other doing) c) spec start (call ∷ calls)) (grows id moves (moved (Does other doing) c) spec start calls)
grows id (Enters change ∷ moves) c spec start calls = grows id moves (moved (Enters change) c) spec start (Feed change ∷ calls)
grows id (Ends other ∷ moves) c spec start calls =
    ends_grow (other == id) id moves (moved (Ends other) c) spec start calls (grows id moves (moved (Ends other) c) spec start calls)
grows id (Asks call ∷ moves) c spec start calls = grows id moves (moved (Asks call) c) spec start calls
grows id (Issues ∷ moves) c spec start calls = grows id moves (moved Issues c) spec start calls
grows id (Repeats other number ∷ moves) c spec start calls = grows id moves c spec start calls
grows id (Answers answer ∷ moves) c spec start calls = grows id moves c spec start calls

-- ---- one that isn't there yet

-- where it lives later, it was made by one of these moves, and its items since then; else they are among all
abbrev pub Begins : ℕ → List Move → Life → Type 0
Begins id moves Unborn = Unit {0}
Begins id moves (Lives spec start calls) = IsMadeSince id moves spec start calls
Begins id moves (Over spec start calls) = IsWithin (in_order calls) (made_in id moves)

comes_later : (id : ℕ) (move : Move) (moves : List Move) (life : Life) → Begins id moves life → Begins id (move ∷ moves) life
comes_later id move moves Unborn h = tt
comes_later id move moves (Lives spec start calls) h =
    record { before = move ∷ h.before; since = h.since; are = ap (λ l. move ∷ l) h.are; own = h.own; items = h.items }
comes_later id move moves (Over spec start calls) h = within_behind (added_in id move) (in_order calls) (made_in id moves) h

comes_now : (id : ℕ) (spec : SubSpec) (start : ℕ) (moves : List Move) (life : Life) → spec.id ≡ id → Grows (made_in id moves) spec start life
    → Begins id (Makes spec start ∷ moves) life
comes_now id spec start moves Unborn own h = tt
comes_now id spec start moves (Lives other began calls) own h =
    record {
      before = [];
      since = moves;
      are = ap (λ x. Makes x start ∷ moves) h.0 ∙ ap (λ n. Makes other n ∷ moves) h.1;
      own = ap (λ (x : SubSpec). x.id) (sym h.0) ∙ own;
      items = h.2;
    }
comes_now id spec start moves (Over other began calls) own h = h

made_comes : (b : Bool) (id : ℕ) (spec : SubSpec) (start : ℕ) (moves : List Move) (c : Core) → (spec.id == id) ≡ b
    → Begins id moves (life_after id moves c Unborn) → Begins id (Makes spec start ∷ moves) (life_after id moves c (cond b (Lives spec start []) Unborn))
made_comes true id spec start moves c test other =
    let own : spec.id ≡ id = grind (arith, nat_tests) in
    comes_now id spec start moves (life_after id moves c (Lives spec start [])) own (grows id moves c spec start [])
made_comes false id spec start moves c test other = comes_later id (Makes spec start) moves (life_after id moves c Unborn) other

unborn_comes : (b : Bool) (id : ℕ) (move : Move) (moves : List Move) (c : Core) → Begins id moves (life_after id moves c Unborn)
    → Begins id (move ∷ moves) (life_after id moves c (cond b Unborn Unborn))
unborn_comes b id move moves c h =
    subst (λ life. Begins id (move ∷ moves) (life_after id moves c life)) (sym (same_life b Unborn)) (comes_later id move moves (life_after id moves c Unborn) h)

comes : (id : ℕ) (moves : List Move) (c : Core) → Begins id moves (life_after id moves c Unborn)
comes id [] c = tt
comes id (Makes spec start ∷ moves) c = made_comes (spec.id == id) id spec start moves (moved (Makes spec start) c) refl (comes id moves (moved (Makes spec start) c))
comes id (Does other doing ∷ moves) c = unborn_comes (other == id) id (Does other doing) moves (moved (Does other doing) c) (comes id moves (moved (Does other doing) c))
comes id (Enters change ∷ moves) c = comes_later id (Enters change) moves _ (comes id moves (moved (Enters change) c))
comes id (Ends other ∷ moves) c = unborn_comes (other == id) id (Ends other) moves (moved (Ends other) c) (comes id moves (moved (Ends other) c))
comes id (Asks call ∷ moves) c = comes_later id (Asks call) moves _ (comes id moves (moved (Asks call) c))
comes id (Issues ∷ moves) c = comes_later id Issues moves _ (comes id moves (moved Issues c))
comes id (Repeats other number ∷ moves) c = comes_later id (Repeats other number) moves _ (comes id moves c)
comes id (Answers answer ∷ moves) c = comes_later id (Answers answer) moves _ (comes id moves c)

-- ---- both

made_before : (id : ℕ) (one other : List Move) → IsWithin (made_in id other) (made_in id (one ++ other))
made_before id [] other = all_within (made_in id other)
made_before id (move ∷ one) other = within_behind (added_in id move) (made_in id other) (made_in id (one ++ other)) (made_before id one other)

within_by : (id : ℕ) (moves : List Move) (life : Life) → Begins id moves life → IsWithin (reverse (items_in life)) (made_in id moves)
within_by id moves Unborn h = none_within (made_in id moves)
within_by id moves (Lives spec start calls) h =
    subst (λ all. IsWithin (in_order calls) (made_in id all)) (sym h.are)
    (subst (λ l. IsWithin l (made_in id (h.before ++ Makes spec start ∷ h.since))) (sym h.items) (made_before id h.before (Makes spec start ∷ h.since)))
within_by id moves (Over spec start calls) h = h

pub are_within : (id : ℕ) (moves : List Move) (c : Core) → IsWithin (reverse (items_in (life_after id moves c Unborn))) (made_in id moves)
are_within id moves c = within_by id moves (life_after id moves c Unborn) (comes id moves c)

pub are_since : (id : ℕ) (moves : List Move) (c : Core) (spec : SubSpec) (start : ℕ) (calls : List Call) → life_after id moves c Unborn ≡ Lives spec start calls
    → IsMadeSince id moves spec start calls
are_since id moves c spec start calls is = subst (Begins id moves) is (comes id moves c)
