-- The items that moves make, and that none are made where none may be.
use Rattle.std.proofs.Common.{◌≡◌, ℕ, ◌==◌, List, [], ◌∷◌, ◌++◌, Bool, true, false, cond, refl, sym, ap, ◌∙◌, append_assoc, arith}
use Rattle.std.proofs.lemmas.Bool.Decides.{nat_tests}
use Rattle.subscription.specs.declared.spec.ItemSpec.{ItemSpec}
use Rattle.server_laws.specs.Moves.{Acknowledges, Adds, Answers, Asks, Cycles, Does, Doing, Enables, Ends, Enters, Goes, Issues, Makes, Modes, Modifies, Move, Removes, Repeats, Sends}
use Rattle.server_laws.specs.Course.{Adding, Feeding, Issuing, Leave, MayAdd, MayDo, MayMove, MayMoves, Nothing, Reading, Repeating, Setting, Transferring}
use Rattle.server_laws.proofs.Tallying.{adds_to}
use Rattle.server_makings.specs.Asked.{added_by, added_in, made_in}

pub made_join : (id : ℕ) (one other : List Move) → made_in id (one ++ other) ≡ made_in id one ++ made_in id other
made_join id [] other = refl
made_join id (move ∷ one) other =
    ap (λ l. added_in id move ++ l) (made_join id one other) ∙ sym (append_assoc (added_in id move) (made_in id one) (made_in id other))

added_apart : (b : Bool) (id other : ℕ) (leave : Leave) (spec : ItemSpec) → (other == id) ≡ b → adds_to id leave ≡ false → MayAdd leave other → cond b (spec ∷ []) [] ≡ []
added_apart false id other leave spec test none may = refl
added_apart true id other (Adding named) spec test none may =
    let own : named ≡ other = may in
    let apart : (named == id) ≡ false = none in
    absurd (grind (arith, nat_tests))
added_apart true id other Nothing spec test none may = absurd may
added_apart true id other (Setting named that) spec test none may = absurd may
added_apart true id other (Transferring ids) spec test none may = absurd may
added_apart true id other Reading spec test none may = absurd may
added_apart true id other (Repeating named number) spec test none may = absurd may
added_apart true id other Issuing spec test none may = absurd may
added_apart true id other (Feeding change) spec test none may = absurd may

nothing_added : (b : Bool) → ◌≡◌ {A = List ItemSpec} (cond b [] []) []
nothing_added true = refl
nothing_added false = refl

doing_unmade : (id other : ℕ) (doing : Doing) (leave : Leave) → adds_to id leave ≡ false → MayDo leave other doing → cond (other == id) (added_by doing) [] ≡ []
doing_unmade id other (Adds spec) leave none may = added_apart (other == id) id other leave spec refl none may
doing_unmade id other (Removes item) leave none may = nothing_added (other == id)
doing_unmade id other (Modes item mode) leave none may = nothing_added (other == id)
doing_unmade id other (Cycles queued) leave none may = nothing_added (other == id)
doing_unmade id other (Sends now) leave none may = nothing_added (other == id)
doing_unmade id other (Acknowledges number) leave none may = nothing_added (other == id)
doing_unmade id other (Modifies spec now) leave none may = nothing_added (other == id)
doing_unmade id other (Enables enabled) leave none may = nothing_added (other == id)
doing_unmade id other Goes leave none may = nothing_added (other == id)

move_unmade : (id : ℕ) (move : Move) (leave : Leave) → adds_to id leave ≡ false → MayMove leave move → added_in id move ≡ []
move_unmade id (Does other doing) leave none may = doing_unmade id other doing leave none may
move_unmade id (Makes spec start) leave none may = refl
move_unmade id (Enters change) leave none may = refl
move_unmade id (Ends other) leave none may = refl
move_unmade id (Asks call) leave none may = refl
move_unmade id Issues leave none may = refl
move_unmade id (Repeats other number) leave none may = refl
move_unmade id (Answers answer) leave none may = refl

-- none, where none may be
pub all_unmade : (id : ℕ) (moves : List Move) (leave : Leave) → adds_to id leave ≡ false → MayMoves leave moves → made_in id moves ≡ []
all_unmade id [] leave none may = refl
all_unmade id (move ∷ moves) leave none may = ap (λ l. l ++ made_in id moves) (move_unmade id move leave none may.0) ∙ all_unmade id moves leave none may.1
