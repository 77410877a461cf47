-- A subscription is what the calls of its life made of it.
use Rattle.std.proofs.Common.{◌≡◌, ℕ, ◌+◌, ◌==◌, List, [], ◌∷◌, ◌++◌, Bool, true, false, cond, Option, Some, None, refl, ap, ◌∙◌, arith}
use Rattle.std.specs.Option.{option_map}
use Rattle.std.proofs.lemmas.Bool.Decides.{nat_tests}
use Rattle.set_model.specs.declared.source.Change.{Change}
use Rattle.subscription.specs.declared.spec.SubSpec.{SubSpec}
use Rattle.subscription.specs.State.{SubState}
use Rattle.subscription.specs.Calls.{new_sub}
use Rattle.subscription.specs.History.{Feed, after, state_of}
use Rattle.server_rules.specs.State.{sub_at, without_sub}
use Rattle.server_laws.specs.Moves.{AreFair, Core, IsFair, Doing, Move, Makes, Does, Enters, Ends, Asks, Issues, Repeats, Answers, call_of, called, done_to, id_of, moved, moved_all}
use Rattle.server_laws.specs.Lives.{Life, Unborn, Lives, Over, Stands, born, ended, life_after, life_with, with_call, with_doing}
use Rattle.server_laws.proofs.Finding.{called_here, called_there, fed_each, found_more, gone_here, gone_there, or_else}

-- a call on the subscription of the id, or of another
pub done_here : (id other : ℕ) (doing : Doing) (c : Core) (found : Option SubState) → (other == id) ≡ true → sub_at id c.subs ≡ found
    → sub_at id (done_to other doing c.current c.subs) ≡ option_map (after (call_of doing c.current found)) found
done_here id other doing c found is h =
    let same : other ≡ id = grind (arith, nat_tests) in
    ap (λ n. sub_at id (called n (call_of doing c.current (sub_at n c.subs)) c.subs)) same
    ∙ called_here id (call_of doing c.current (sub_at id c.subs)) c.subs
    ∙ ap (λ o. option_map (after (call_of doing c.current o)) o) h

done_there : (id other : ℕ) (doing : Doing) (c : Core) → (other == id) ≡ false → sub_at id (done_to other doing c.current c.subs) ≡ sub_at id c.subs
done_there id other doing c is = called_there id other (call_of doing c.current (sub_at other c.subs)) c.subs is

-- the subscriptions change, and no id is given
same_done : (id other : ℕ) (doing : Doing) (life : Life) (c : Core) (b : Bool) → (other == id) ≡ b → Stands id life c
    → Stands id (cond b (with_doing doing c.current life) life) (record c { subs = done_to other doing c.current c.subs })
same_done id other doing Unborn c true is h = done_here id other doing c None is h
same_done id other doing (Lives spec start calls) c true is h = (done_here id other doing c (Some (state_of spec start calls)) is h.0, h.1, h.2)
same_done id other doing (Over spec start calls) c true is h = (done_here id other doing c None is h.0, h.1)
same_done id other doing Unborn c false is h = done_there id other doing c is ∙ h
same_done id other doing (Lives spec start calls) c false is h = (done_there id other doing c is ∙ h.0, h.1, h.2)
same_done id other doing (Over spec start calls) c false is h = (done_there id other doing c is ∙ h.0, h.1)

stands_fed : (id : ℕ) (change : Change) (life : Life) (c : Core) → Stands id life c
    → Stands id (with_call (Feed change) life) (moved (Enters change) c)
stands_fed id change Unborn c h = fed_each id change c.subs ∙ ap (option_map (after (Feed change))) h
stands_fed id change (Lives spec start calls) c h = (fed_each id change c.subs ∙ ap (option_map (after (Feed change))) h.0, h.1, h.2)
stands_fed id change (Over spec start calls) c h = (fed_each id change c.subs ∙ ap (option_map (after (Feed change))) h.0, h.1)

stands_ended : (id other : ℕ) (life : Life) (c : Core) (b : Bool) → (other == id) ≡ b → Stands id life c
    → Stands id (cond b (ended life) life) (record c { subs = without_sub other c.subs })
stands_ended id other life c true is h =
    let same : other ≡ id = grind (arith, nat_tests) in
    let none : sub_at id (without_sub other c.subs) ≡ None = ap (λ n. sub_at id (without_sub n c.subs)) same ∙ gone_here id c.subs in
    by_life life h none
  where
    by_life : (life : Life) → Stands id life c → sub_at id (without_sub other c.subs) ≡ None
        → Stands id (ended life) (record c { subs = without_sub other c.subs })
    by_life Unborn h none = none
    by_life (Lives spec start calls) h none = (none, h.2)
    by_life (Over spec start calls) h none = (none, h.1)
stands_ended id other Unborn c false is h = gone_there id other c.subs is ∙ h
stands_ended id other (Lives spec start calls) c false is h = (gone_there id other c.subs is ∙ h.0, h.1, h.2)
stands_ended id other (Over spec start calls) c false is h = (gone_there id other c.subs is ∙ h.0, h.1)

found_new : (id : ℕ) (spec : SubSpec) (start : ℕ) (c : Core) (found : Option SubState) (b : Bool) → (spec.id == id) ≡ b → sub_at id c.subs ≡ found
    → sub_at id (c.subs ++ new_sub spec start ∷ []) ≡ or_else found (cond b (Some (new_sub spec start)) None)
found_new id spec start c found b is h =
    found_more id c.subs (new_sub spec start)
    ∙ ap (λ o. or_else o (cond (spec.id == id) (Some (new_sub spec start)) None)) h
    ∙ ap (λ t. or_else found (cond t (Some (new_sub spec start)) None)) is

stands_made : (id : ℕ) (spec : SubSpec) (start : ℕ) (life : Life) (c : Core) (b : Bool) → (spec.id == id) ≡ b → spec.id ≡ id_of c.boot (c.made + 1)
    → Stands id life c → Stands id (cond b (born spec start life) life) (moved (Makes spec start) c)
stands_made id spec start Unborn c true is new h =
    let same : spec.id ≡ id = grind (arith, nat_tests) in
    (found_new id spec start c None true is h, same, omega (arith, new, same))
stands_made id spec start (Lives old began calls) c true is new h =
    let same : spec.id ≡ id = grind (arith, nat_tests) in
    let below = h.2 in
    absurd (omega (arith, new, same, below))
stands_made id spec start (Over old began calls) c true is new h =
    let same : spec.id ≡ id = grind (arith, nat_tests) in
    let below = h.1 in
    absurd (omega (arith, new, same, below))
stands_made id spec start Unborn c false is new h = found_new id spec start c None false is h
stands_made id spec start (Lives old began calls) c false is new h =
    let below = h.2 in
    (found_new id spec start c (Some (state_of old began calls)) false is h.0, h.1, omega arith)
stands_made id spec start (Over old began calls) c false is new h =
    let below = h.1 in
    (found_new id spec start c None false is h.0, omega arith)

stands_same : (id : ℕ) (life : Life) (c after : Core) → after.subs ≡ c.subs → after.boot ≡ c.boot → after.made ≡ c.made → Stands id life c → Stands id life after
stands_same id Unborn c after subs boot made h = ap (sub_at id) subs ∙ h
stands_same id (Lives spec start calls) c after subs boot made h =
    let below = h.2 in (ap (sub_at id) subs ∙ h.0, h.1, omega (arith, boot, made, below))
stands_same id (Over spec start calls) c after subs boot made h =
    let below = h.1 in (ap (sub_at id) subs ∙ h.0, omega (arith, boot, made, below))

pub stands_with : (id : ℕ) (move : Move) (life : Life) (c : Core) → IsFair move c → Stands id life c → Stands id (life_with id move c life) (moved move c)
stands_with id (Makes spec start) life c fair h = stands_made id spec start life c (spec.id == id) refl fair.0 h
stands_with id (Does other doing) life c fair h = same_done id other doing life c (other == id) refl h
stands_with id (Enters change) life c fair h = stands_fed id change life c h
stands_with id (Ends other) life c fair h = stands_ended id other life c (other == id) refl h
stands_with id (Asks call) life c fair h = stands_same id life c (moved (Asks call) c) refl refl refl h
stands_with id Issues life c fair h = stands_same id life c (moved Issues c) refl refl refl h
stands_with id (Repeats other number) life c fair h = h
stands_with id (Answers answer) life c fair h = h

pub stands_all : (id : ℕ) (moves : List Move) (life : Life) (c : Core) → AreFair moves c → Stands id life c
    → Stands id (life_after id moves c life) (moved_all moves c)
stands_all id [] life c fair h = h
stands_all id (move ∷ moves) life c fair h = stands_all id moves (life_with id move c life) (moved move c) fair.1 (stands_with id move life c fair.0 h)
