-- The calls of a subscription make what was asked for.
use Rattle.std.proofs.Common.{◌≡◌, ℕ, List, ap, subst, sym}
use Rattle.std.specs.Prelude.{reverse}
use Rattle.subscription.specs.declared.spec.SubSpec.{SubSpec}
use Rattle.subscription.specs.History.{Call}
use Rattle.server_laws.specs.Bounded.{items_in, items_made}
use Rattle.server_laws.specs.Lives.{Life, Lives, Over, Unborn, life_after}
use Rattle.server_laws.specs.Moves.{Core, Move}
use Rattle.server_chains.specs.Chains.{IsOfLife}
use Rattle.server_makings.specs.Asked.{AreMadeOf, AskedItem, made_in}
use Rattle.server_makings.proofs.Having.{are_within, fewer}

-- they make the items of their life
items_same : (life : Life) (spec : SubSpec) (start : ℕ) (calls : List Call) → IsOfLife life spec start calls → items_made calls ≡ items_in life
items_same Unborn spec start calls h = ap items_made h
items_same (Lives own began made) spec start calls h = ap items_made h.2
items_same (Over own began made) spec start calls h = ap items_made h.2

pub calls_make : (items id : ℕ) (moves : List Move) (c : Core) (spec : SubSpec) (start : ℕ) (calls : List Call) (asked : List AskedItem)
    → IsOfLife (life_after id moves c Unborn) spec start calls → AreMadeOf items (made_in id moves) asked
    → AreMadeOf items (reverse (items_made calls)) asked
calls_make items id moves c spec start calls asked own made =
    let life : Life = life_after id moves c Unborn in
    subst (λ l. AreMadeOf items (reverse l) asked) (sym (items_same life spec start calls own))
    (fewer items (reverse (items_in life)) (made_in id moves) asked (are_within id moves c) made)
