-- What each event of a life may put into the queues of some nodes.
use Rattle.std.proofs.Common.{◌≡◌, ℕ, ◌+◌, ◌-◌, ◌≤◌, ◌==◌, List, [], ◌∷◌, ◌++◌, Bool, true, false, cond, map, filter, length, Option, Some, None, refl, sym, ap, ◌∙◌, arith, length-append}
use Rattle.std.proofs.lemmas.Bool.Decides.{nat_tests}
use Rattle.std.proofs.lemmas.List.Elements.{filter-append}
use Rattle.ua_base.specs.declared.modes.Mode.{Mode}
use Rattle.set_model.specs.declared.source.Change.{Change}
use Rattle.subscription.specs.declared.spec.ItemSpec.{ItemSpec}
use Rattle.subscription.specs.declared.spec.SubSpec.{SubSpec}
use Rattle.subscription.specs.State.{SubState}
use Rattle.subscription.specs.Items.{is_disabled, moded_if}
use Rattle.subscription.specs.History.{Call, Feed, state_of}
use Rattle.server_rules.specs.Items.{current_of, item_node}
use Rattle.server_rules.specs.Step.{fed}
use Rattle.server_laws.specs.Bounded.{count_disabled, items_in, items_made, made_by, reached, sets_modes}
use Rattle.server_laws.specs.Counted.{leaves}
use Rattle.server_laws.specs.Course.{Transferring, Adding, MayAdd, Feeding, Issuing, Leave, MayDo, MayMove, MayMoves, MaySet, Nothing, Reading, Repeating, Setting}
use Rattle.server_laws.specs.Lives.{Life, Lives, Over, Unborn, born, ended, life_after, life_with, with_call, with_doing}
use Rattle.server_laws.specs.Moves.{Acknowledges, Adds, Answers, Asks, Core, Cycles, Does, Doing, Enables, Ends, Enters, Goes, Issues, Makes, Modes, Modifies, Move, Removes, Repeats, Sends, call_of, feed_in, feeds_in, moved}
use Rattle.server_laws.proofs.Making.{added_by, added_in, made_in}
use Rattle.server_laws.proofs.Setting.{AreSets}
use Rattle.server_laws.proofs.Waking.{made_for, modes_by, modes_put, changes_by, changes_in, woken}

-- ---- of a life

abbrev pub modes_in : Life → ℕ
modes_in Unborn = 0
modes_in (Lives spec start calls) = modes_put spec start calls
modes_in (Over spec start calls) = modes_put spec start calls

abbrev pub changes_of : Life → List Change
changes_of Unborn = []
changes_of (Lives spec start calls) = changes_in calls
changes_of (Over spec start calls) = changes_in calls

abbrev pub off_in : Life → ℕ
off_in Unborn = 0
off_in (Lives spec start calls) = count_disabled (state_of spec start calls).items
off_in (Over spec start calls) = 0

-- changes

call_none : (doing : Doing) (current : List Change) (found : Option SubState) → changes_by (call_of doing current found) ≡ []
call_none (Adds spec) current found = refl
call_none (Removes id) current found = refl
call_none (Modes id mode) current found = refl
call_none (Cycles queued) current found = refl
call_none (Sends now) current found = refl
call_none (Acknowledges number) current found = refl
call_none (Modifies spec now) current found = refl
call_none (Enables enabled) current found = refl
call_none Goes current found = refl

made_changes : (b : Bool) (spec : SubSpec) (start : ℕ) (life : Life) → changes_of (cond b (born spec start life) life) ≡ changes_of life
made_changes true spec start Unborn = refl
made_changes true spec start (Lives old began calls) = refl
made_changes true spec start (Over old began calls) = refl
made_changes false spec start life = refl

done_changes : (b : Bool) (doing : Doing) (current : List Change) (life : Life) → changes_of (cond b (with_doing doing current life) life) ≡ changes_of life
done_changes true doing current Unborn = refl
done_changes true doing current (Lives spec start calls) = ap (λ l. l ++ changes_in calls) (call_none doing current (Some (state_of spec start calls)))
done_changes true doing current (Over spec start calls) = refl
done_changes false doing current life = refl

over_changes : (b : Bool) (life : Life) → changes_of (cond b (ended life) life) ≡ changes_of life
over_changes true Unborn = refl
over_changes true (Lives spec start calls) = refl
over_changes true (Over spec start calls) = refl
over_changes false life = refl

reached_join : (one other : List Change) (specs : List ItemSpec) → reached (one ++ other) specs ≡ reached one specs + reached other specs
reached_join [] other specs = omega arith
reached_join (change ∷ one) other specs = let rest = reached_join one other specs in omega (arith, rest)

fed_changes : (change : Change) (life : Life) (specs : List ItemSpec) → reached (changes_of (with_call (Feed change) life)) specs ≤ reached (changes_of life) specs + reached (change ∷ []) specs
fed_changes change Unborn specs = omega arith
fed_changes change (Lives spec start calls) specs = omega arith
fed_changes change (Over spec start calls) specs = omega arith

-- as nothing is fed
none_fed : (before now : List Change) (specs : List ItemSpec) → now ≡ before → reached now specs ≤ reached before specs + reached [] specs
none_fed before now specs same = let is : reached now specs ≡ reached before specs = ap (λ l. reached l specs) same in omega (arith, is)

move_changes : (id : ℕ) (move : Move) (c : Core) (life : Life) (specs : List ItemSpec)
    → reached (changes_of (life_with id move c life)) specs ≤ reached (changes_of life) specs + reached (feed_in move) specs
move_changes id (Makes spec start) c life specs = none_fed (changes_of life) (changes_of (life_with id (Makes spec start) c life)) specs (made_changes (spec.id == id) spec start life)
move_changes id (Does other doing) c life specs = none_fed (changes_of life) (changes_of (life_with id (Does other doing) c life)) specs (done_changes (other == id) doing c.current life)
move_changes id (Enters change) c life specs = fed_changes change life specs
move_changes id (Ends other) c life specs = none_fed (changes_of life) (changes_of (life_with id (Ends other) c life)) specs (over_changes (other == id) life)
move_changes id (Asks call) c life specs = none_fed (changes_of life) (changes_of life) specs refl
move_changes id Issues c life specs = none_fed (changes_of life) (changes_of life) specs refl
move_changes id (Repeats other number) c life specs = none_fed (changes_of life) (changes_of life) specs refl
move_changes id (Answers answer) c life specs = none_fed (changes_of life) (changes_of life) specs refl

pub all_changes : (id : ℕ) (moves : List Move) (c : Core) (life : Life) (specs : List ItemSpec)
    → reached (changes_of (life_after id moves c life)) specs ≤ reached (changes_of life) specs + reached (feeds_in moves) specs
all_changes id [] c life specs = omega arith
all_changes id (move ∷ moves) c life specs =
    let rest = all_changes id moves (moved move c) (life_with id move c life) specs in
    let now = move_changes id move c life specs in
    let both = reached_join (feed_in move) (feeds_in moves) specs in
    omega (arith, rest, now, both)

-- items

grown : (call : Call) (calls : List Call) → length (items_made calls) ≤ length (items_made (call ∷ calls))
grown call calls = let long = length-append (made_by call) (items_made calls) in omega (arith, long)

made_items : (b : Bool) (spec : SubSpec) (start : ℕ) (life : Life) → length (items_in life) ≤ length (items_in (cond b (born spec start life) life))
made_items true spec start Unborn = omega arith
made_items true spec start (Lives old began calls) = omega arith
made_items true spec start (Over old began calls) = omega arith
made_items false spec start life = omega arith

done_items : (b : Bool) (doing : Doing) (current : List Change) (life : Life) → length (items_in life) ≤ length (items_in (cond b (with_doing doing current life) life))
done_items true doing current Unborn = omega arith
done_items true doing current (Lives spec start calls) = grown (call_of doing current (Some (state_of spec start calls))) calls
done_items true doing current (Over spec start calls) = omega arith
done_items false doing current life = omega arith

fed_items : (change : Change) (life : Life) → length (items_in life) ≤ length (items_in (with_call (Feed change) life))
fed_items change Unborn = omega arith
fed_items change (Lives spec start calls) = omega arith
fed_items change (Over spec start calls) = omega arith

over_items : (b : Bool) (life : Life) → length (items_in life) ≤ length (items_in (cond b (ended life) life))
over_items true Unborn = omega arith
over_items true (Lives spec start calls) = omega arith
over_items true (Over spec start calls) = omega arith
over_items false life = omega arith

move_items : (id : ℕ) (move : Move) (c : Core) (life : Life) → length (items_in life) ≤ length (items_in (life_with id move c life))
move_items id (Makes spec start) c life = made_items (spec.id == id) spec start life
move_items id (Does other doing) c life = done_items (other == id) doing c.current life
move_items id (Enters change) c life = fed_items change life
move_items id (Ends other) c life = over_items (other == id) life
move_items id (Asks call) c life = omega arith
move_items id Issues c life = omega arith
move_items id (Repeats other number) c life = omega arith
move_items id (Answers answer) c life = omega arith

pub all_items : (id : ℕ) (moves : List Move) (c : Core) (life : Life) → length (items_in life) ≤ length (items_in (life_after id moves c life))
all_items id [] c life = omega arith
all_items id (move ∷ moves) c life =
    let rest = all_items id moves (moved move c) (life_with id move c life) in
    let now = move_items id move c life in
    omega (arith, rest, now)

-- modes, where none is set

made_modes : (b : Bool) (spec : SubSpec) (start : ℕ) (life : Life) → modes_in (cond b (born spec start life) life) ≡ modes_in life
made_modes true spec start Unborn = refl
made_modes true spec start (Lives old began calls) = refl
made_modes true spec start (Over old began calls) = refl
made_modes false spec start life = refl

over_modes : (b : Bool) (life : Life) → modes_in (cond b (ended life) life) ≡ modes_in life
over_modes true Unborn = refl
over_modes true (Lives spec start calls) = refl
over_modes true (Over spec start calls) = refl
over_modes false life = refl

pub fed_modes : (change : Change) (life : Life) → modes_in (with_call (Feed change) life) ≡ modes_in life
fed_modes change Unborn = refl
fed_modes change (Lives spec start calls) = omega arith
fed_modes change (Over spec start calls) = refl

other_modes : (b : Bool) (doing : Doing) (current : List Change) (life : Life)
    → ((found : Option SubState) (s : SubState) → modes_by (call_of doing current found) s ≡ 0) → modes_in (cond b (with_doing doing current life) life) ≡ modes_in life
other_modes true doing current Unborn none = refl
other_modes true doing current (Lives spec start calls) none =
    let zero_more : modes_by (call_of doing current (Some (state_of spec start calls))) (state_of spec start calls) ≡ 0 = none (Some (state_of spec start calls)) (state_of spec start calls) in
    omega (arith, zero_more)
other_modes true doing current (Over spec start calls) none = refl
other_modes false doing current life none = refl

-- a mode of another subscription
apart_by : (b : Bool) (id other : ℕ) (leave : Leave) (item : ℕ) (mode : Mode) (current : List Change) (life : Life) → (other == id) ≡ b → sets_modes id leave ≡ false
    → MaySet leave other mode → modes_in (cond b (with_doing (Modes item mode) current life) life) ≡ modes_in life
apart_by false id other leave item mode current life test none may = refl
apart_by true id other (Setting named that) item mode current life test none may =
    let own : named ≡ other = may.0 in
    let apart : (named == id) ≡ false = none in
    absurd (grind (arith, nat_tests))
apart_by true id other Nothing item mode current life test none may = absurd may
apart_by true id other (Adding named) item mode current life test none may = absurd may
apart_by true id other (Transferring ids) item mode current life test none may = absurd may
apart_by true id other Reading item mode current life test none may = absurd may
apart_by true id other (Repeating named number) item mode current life test none may = absurd may
apart_by true id other Issuing item mode current life test none may = absurd may
apart_by true id other (Feeding change) item mode current life test none may = absurd may

done_modes : (id other : ℕ) (doing : Doing) (leave : Leave) (current : List Change) (life : Life) → sets_modes id leave ≡ false → MayDo leave other doing
    → modes_in (cond (other == id) (with_doing doing current life) life) ≡ modes_in life
done_modes id other (Modes item mode) leave current life none may = apart_by (other == id) id other leave item mode current life refl none may
done_modes id other (Adds spec) leave current life none may = other_modes (other == id) (Adds spec) current life (λ found s. refl)
done_modes id other (Removes item) leave current life none may = other_modes (other == id) (Removes item) current life (λ found s. refl)
done_modes id other (Cycles queued) leave current life none may = other_modes (other == id) (Cycles queued) current life (λ found s. refl)
done_modes id other (Sends now) leave current life none may = other_modes (other == id) (Sends now) current life (λ found s. refl)
done_modes id other (Acknowledges number) leave current life none may = other_modes (other == id) (Acknowledges number) current life (λ found s. refl)
done_modes id other (Modifies spec now) leave current life none may = other_modes (other == id) (Modifies spec now) current life (λ found s. refl)
done_modes id other (Enables enabled) leave current life none may = other_modes (other == id) (Enables enabled) current life (λ found s. refl)
done_modes id other Goes leave current life none may = other_modes (other == id) Goes current life (λ found s. refl)

move_modes : (id : ℕ) (move : Move) (leave : Leave) (c : Core) (life : Life) → sets_modes id leave ≡ false → MayMove leave move
    → modes_in (life_with id move c life) ≡ modes_in life
move_modes id (Makes spec start) leave c life none may = made_modes (spec.id == id) spec start life
move_modes id (Does other doing) leave c life none may = done_modes id other doing leave c.current life none may
move_modes id (Enters change) leave c life none may = fed_modes change life
move_modes id (Ends other) leave c life none may = over_modes (other == id) life
move_modes id (Asks call) leave c life none may = refl
move_modes id Issues leave c life none may = refl
move_modes id (Repeats other number) leave c life none may = refl
move_modes id (Answers answer) leave c life none may = refl

pub no_modes : (id : ℕ) (moves : List Move) (leave : Leave) (c : Core) (life : Life) → sets_modes id leave ≡ false → MayMoves leave moves
    → modes_in (life_after id moves c life) ≡ modes_in life
no_modes id [] leave c life none may = refl
no_modes id (move ∷ moves) leave c life none may =
    no_modes id moves leave (moved move c) (life_with id move c life) none may.1 ∙ move_modes id move leave c life none may.0

-- modes, where only they are set

-- Disabled, or no mode at all
abbrev pub is_off : Option Mode → Bool
is_off None = true
is_off (Some mode) = is_disabled mode

is_mode_off : (that : Option Mode) (mode : Mode) (b : Bool) → is_off that ≡ b → that ≡ Some mode → is_disabled mode ≡ b
is_mode_off that mode b is same = sym (ap is_off same) ∙ is

off_modes : (b : Bool) (item : ℕ) (mode : Mode) (current : List Change) (life : Life) → is_disabled mode ≡ true
    → modes_in (cond b (with_doing (Modes item mode) current life) life) ≡ modes_in life
off_modes b item mode current life is = other_off b life
  where
    other_off : (b : Bool) (life : Life) → modes_in (cond b (with_doing (Modes item mode) current life) life) ≡ modes_in life
    other_off true Unborn = refl
    other_off true (Lives spec start calls) =
        let s : SubState = state_of spec start calls in
        let zero_more : cond (is_disabled mode) 0 (length (filter (leaves item) s.items)) ≡ 0 = ap (λ b. cond b 0 (length (filter (leaves item) s.items))) is in
        omega (arith, zero_more)
    other_off true (Over spec start calls) = refl
    other_off false life = refl

on_modes : (b : Bool) (item : ℕ) (mode : Mode) (current : List Change) (life : Life) → is_disabled mode ≡ false
    → modes_in (cond b (with_doing (Modes item mode) current life) life) + off_in (cond b (with_doing (Modes item mode) current life) life) ≡ modes_in life + off_in life
on_modes b item mode current life is = other_on b life
  where
    other_on : (b : Bool) (life : Life)
        → modes_in (cond b (with_doing (Modes item mode) current life) life) + off_in (cond b (with_doing (Modes item mode) current life) life) ≡ modes_in life + off_in life
    other_on true Unborn = refl
    other_on true (Lives spec start calls) =
        let s : SubState = state_of spec start calls in
        let found : Option Change = current_of (item_node item (Some s)) current in
        let some : cond (is_disabled mode) 0 (length (filter (leaves item) s.items)) ≡ length (filter (leaves item) s.items) =
        ap (λ b. cond b 0 (length (filter (leaves item) s.items))) is in
        let less : count_disabled (map (moded_if item mode found) s.items) + length (filter (leaves item) s.items) ≡ count_disabled s.items = woken item mode found s.items is in
        omega (arith, some, less)
    other_on true (Over spec start calls) = refl
    other_on false life = refl

pub off_sets : (id : ℕ) (moves : List Move) (named : ℕ) (that : Option Mode) (c : Core) (life : Life) → is_off that ≡ true → AreSets moves → MayMoves (Setting named that) moves
    → modes_in (life_after id moves c life) ≡ modes_in life
off_sets id [] named that c life off sets may = refl
off_sets id (Does other (Modes item mode) ∷ moves) named that c life off sets may =
    off_sets id moves named that (moved (Does other (Modes item mode)) c) (life_with id (Does other (Modes item mode)) c life) off sets.1 may.1
    ∙ off_modes (other == id) item mode c.current life (is_mode_off that mode true off may.0.1)
off_sets id (Does other (Adds spec) ∷ moves) named that c life off sets may = absurd sets.0
off_sets id (Does other (Removes item) ∷ moves) named that c life off sets may = absurd sets.0
off_sets id (Does other (Cycles queued) ∷ moves) named that c life off sets may = absurd sets.0
off_sets id (Does other (Sends now) ∷ moves) named that c life off sets may = absurd sets.0
off_sets id (Does other (Acknowledges number) ∷ moves) named that c life off sets may = absurd sets.0
off_sets id (Does other (Modifies spec now) ∷ moves) named that c life off sets may = absurd sets.0
off_sets id (Does other (Enables enabled) ∷ moves) named that c life off sets may = absurd sets.0
off_sets id (Does other Goes ∷ moves) named that c life off sets may = absurd sets.0
off_sets id (Makes spec start ∷ moves) named that c life off sets may = absurd sets.0
off_sets id (Enters change ∷ moves) named that c life off sets may = absurd sets.0
off_sets id (Ends other ∷ moves) named that c life off sets may = absurd sets.0
off_sets id (Asks call ∷ moves) named that c life off sets may = off_sets id moves named that (moved (Asks call) c) life off sets.1 may.1
off_sets id (Issues ∷ moves) named that c life off sets may = absurd sets.0
off_sets id (Repeats other number ∷ moves) named that c life off sets may = absurd sets.0
off_sets id (Answers answer ∷ moves) named that c life off sets may = off_sets id moves named that c life off sets.1 may.1

pub on_sets : (id : ℕ) (moves : List Move) (named : ℕ) (that : Option Mode) (c : Core) (life : Life) → is_off that ≡ false → AreSets moves → MayMoves (Setting named that) moves
    → modes_in (life_after id moves c life) + off_in (life_after id moves c life) ≡ modes_in life + off_in life
on_sets id [] named that c life on sets may = refl
on_sets id (Does other (Modes item mode) ∷ moves) named that c life on sets may =
    on_sets id moves named that (moved (Does other (Modes item mode)) c) (life_with id (Does other (Modes item mode)) c life) on sets.1 may.1
    ∙ on_modes (other == id) item mode c.current life (is_mode_off that mode false on may.0.1)
on_sets id (Does other (Adds spec) ∷ moves) named that c life on sets may = absurd sets.0
on_sets id (Does other (Removes item) ∷ moves) named that c life on sets may = absurd sets.0
on_sets id (Does other (Cycles queued) ∷ moves) named that c life on sets may = absurd sets.0
on_sets id (Does other (Sends now) ∷ moves) named that c life on sets may = absurd sets.0
on_sets id (Does other (Acknowledges number) ∷ moves) named that c life on sets may = absurd sets.0
on_sets id (Does other (Modifies spec now) ∷ moves) named that c life on sets may = absurd sets.0
on_sets id (Does other (Enables enabled) ∷ moves) named that c life on sets may = absurd sets.0
on_sets id (Does other Goes ∷ moves) named that c life on sets may = absurd sets.0
on_sets id (Makes spec start ∷ moves) named that c life on sets may = absurd sets.0
on_sets id (Enters change ∷ moves) named that c life on sets may = absurd sets.0
on_sets id (Ends other ∷ moves) named that c life on sets may = absurd sets.0
on_sets id (Asks call ∷ moves) named that c life on sets may = on_sets id moves named that (moved (Asks call) c) life on sets.1 may.1
on_sets id (Issues ∷ moves) named that c life on sets may = absurd sets.0
on_sets id (Repeats other number ∷ moves) named that c life on sets may = absurd sets.0
on_sets id (Answers answer ∷ moves) named that c life on sets may = on_sets id moves named that c life on sets.1 may.1

-- items, of some nodes

made_join : (p : ℕ → Bool) (one other : List ItemSpec) → made_for p (one ++ other) ≡ made_for p one + made_for p other
made_join p one other =
    ap length (filter-append (λ (x : ItemSpec). p x.node) one other) ∙ length-append (filter (λ (x : ItemSpec). p x.node) one) (filter (λ (x : ItemSpec). p x.node) other)

call_added : (doing : Doing) (current : List Change) (found : Option SubState) → made_by (call_of doing current found) ≡ added_by doing
call_added (Adds spec) current found = refl
call_added (Removes id) current found = refl
call_added (Modes id mode) current found = refl
call_added (Cycles queued) current found = refl
call_added (Sends now) current found = refl
call_added (Acknowledges number) current found = refl
call_added (Modifies spec now) current found = refl
call_added (Enables enabled) current found = refl
call_added Goes current found = refl

done_made : (p : ℕ → Bool) (b : Bool) (doing : Doing) (current : List Change) (life : Life)
    → made_for p (items_in (cond b (with_doing doing current life) life)) ≤ made_for p (items_in life) + made_for p (cond b (added_by doing) [])
done_made p true doing current Unborn = omega arith
done_made p true doing current (Lives spec start calls) =
    let call : Call = call_of doing current (Some (state_of spec start calls)) in
    let both : made_for p (made_by call ++ items_made calls) ≡ made_for p (made_by call) + made_for p (items_made calls) = made_join p (made_by call) (items_made calls) in
    let same : made_for p (made_by call) ≡ made_for p (added_by doing) = ap (made_for p) (call_added doing current (Some (state_of spec start calls))) in
    omega (arith, both, same)
done_made p true doing current (Over spec start calls) = omega arith
done_made p false doing current life = omega arith

born_items : (b : Bool) (spec : SubSpec) (start : ℕ) (life : Life) → items_in (cond b (born spec start life) life) ≡ items_in life
born_items true spec start Unborn = refl
born_items true spec start (Lives old began calls) = refl
born_items true spec start (Over old began calls) = refl
born_items false spec start life = refl

call_items : (change : Change) (life : Life) → items_in (with_call (Feed change) life) ≡ items_in life
call_items change Unborn = refl
call_items change (Lives spec start calls) = refl
call_items change (Over spec start calls) = refl

ended_items : (b : Bool) (life : Life) → items_in (cond b (ended life) life) ≡ items_in life
ended_items true Unborn = refl
ended_items true (Lives spec start calls) = refl
ended_items true (Over spec start calls) = refl
ended_items false life = refl

none_new : (p : ℕ → Bool) (before now : List ItemSpec) → now ≡ before → made_for p now ≤ made_for p before + made_for p []
none_new p before now same = let is : made_for p now ≡ made_for p before = ap (made_for p) same in omega (arith, is)

move_made : (p : ℕ → Bool) (id : ℕ) (move : Move) (c : Core) (life : Life)
    → made_for p (items_in (life_with id move c life)) ≤ made_for p (items_in life) + made_for p (added_in id move)
move_made p id (Makes spec start) c life = none_new p (items_in life) (items_in (life_with id (Makes spec start) c life)) (born_items (spec.id == id) spec start life)
move_made p id (Does other doing) c life = done_made p (other == id) doing c.current life
move_made p id (Enters change) c life = none_new p (items_in life) (items_in (with_call (Feed change) life)) (call_items change life)
move_made p id (Ends other) c life = none_new p (items_in life) (items_in (life_with id (Ends other) c life)) (ended_items (other == id) life)
move_made p id (Asks call) c life = none_new p (items_in life) (items_in life) refl
move_made p id Issues c life = none_new p (items_in life) (items_in life) refl
move_made p id (Repeats other number) c life = none_new p (items_in life) (items_in life) refl
move_made p id (Answers answer) c life = none_new p (items_in life) (items_in life) refl

pub all_made : (p : ℕ → Bool) (id : ℕ) (moves : List Move) (c : Core) (life : Life)
    → made_for p (items_in (life_after id moves c life)) ≤ made_for p (items_in life) + made_for p (made_in id moves)
all_made p id [] c life = omega arith
all_made p id (move ∷ moves) c life =
    let rest = all_made p id moves (moved move c) (life_with id move c life) in
    let now = move_made p id move c life in
    let both = made_join p (added_in id move) (made_in id moves) in
    omega (arith, rest, now, both)

-- where none may be made

abbrev pub adds_to : ℕ → Leave → Bool
adds_to id (Adding other) = other == id
adds_to id other = false

added_apart : (b : Bool) (id other : ℕ) (leave : Leave) (spec : ItemSpec) → (other == id) ≡ b → adds_to id leave ≡ false → MayAdd leave other → cond b (spec ∷ []) [] ≡ []
added_apart false id other leave spec test none may = refl
added_apart true id other (Adding named) spec test none may =
    let own : named ≡ other = may in
    let apart : (named == id) ≡ false = none in
    absurd (grind (arith, nat_tests))
added_apart true id other Nothing spec test none may = absurd may
added_apart true id other (Setting named that) spec test none may = absurd may
added_apart true id other (Transferring ids) spec test none may = absurd may
added_apart true id other Reading spec test none may = absurd may
added_apart true id other (Repeating named number) spec test none may = absurd may
added_apart true id other Issuing spec test none may = absurd may
added_apart true id other (Feeding change) spec test none may = absurd may

nothing_added : (b : Bool) → ◌≡◌ {A = List ItemSpec} (cond b [] []) []
nothing_added true = refl
nothing_added false = refl

doing_unmade : (id other : ℕ) (doing : Doing) (leave : Leave) → adds_to id leave ≡ false → MayDo leave other doing → cond (other == id) (added_by doing) [] ≡ []
doing_unmade id other (Adds spec) leave none may = added_apart (other == id) id other leave spec refl none may
doing_unmade id other (Removes item) leave none may = nothing_added (other == id)
doing_unmade id other (Modes item mode) leave none may = nothing_added (other == id)
doing_unmade id other (Cycles queued) leave none may = nothing_added (other == id)
doing_unmade id other (Sends now) leave none may = nothing_added (other == id)
doing_unmade id other (Acknowledges number) leave none may = nothing_added (other == id)
doing_unmade id other (Modifies spec now) leave none may = nothing_added (other == id)
doing_unmade id other (Enables enabled) leave none may = nothing_added (other == id)
doing_unmade id other Goes leave none may = nothing_added (other == id)

move_unmade : (id : ℕ) (move : Move) (leave : Leave) → adds_to id leave ≡ false → MayMove leave move → added_in id move ≡ []
move_unmade id (Does other doing) leave none may = doing_unmade id other doing leave none may
move_unmade id (Makes spec start) leave none may = refl
move_unmade id (Enters change) leave none may = refl
move_unmade id (Ends other) leave none may = refl
move_unmade id (Asks call) leave none may = refl
move_unmade id Issues leave none may = refl
move_unmade id (Repeats other number) leave none may = refl
move_unmade id (Answers answer) leave none may = refl

all_unmade : (id : ℕ) (moves : List Move) (leave : Leave) → adds_to id leave ≡ false → MayMoves leave moves → made_in id moves ≡ []
all_unmade id [] leave none may = refl
all_unmade id (move ∷ moves) leave none may = ap (λ l. l ++ made_in id moves) (move_unmade id move leave none may.0) ∙ all_unmade id moves leave none may.1

pub none_more : (id : ℕ) (moves : List Move) (leave : Leave) (c : Core) (life : Life) (nodes : List ℕ) → adds_to id leave ≡ false → MayMoves leave moves → (p : ℕ → Bool)
    → made_for p (items_in (life_after id moves c life)) ≤ made_for p (items_in life) + length (filter p nodes)
none_more id moves leave c life nodes none may p =
    let all = all_made p id moves c life in
    let unmade : made_for p (made_in id moves) ≡ 0 = ap (made_for p) (all_unmade id moves leave none may) in
    omega (arith, all, unmade)
