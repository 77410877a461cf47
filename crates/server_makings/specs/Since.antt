-- Which items a subscription has of those that a life's moves make.
use Rattle.std.specs.Prelude.{◌≡◌, ℕ, List, ◌∷◌, ◌++◌, reverse}
use Rattle.subscription.specs.declared.spec.SubSpec.{SubSpec}
use Rattle.subscription.specs.History.{Call}
use Rattle.server_laws.specs.Bounded.{items_made}
use Rattle.server_laws.specs.Moves.{Makes, Move}
use Rattle.server_makings.specs.Asked.{made_in}

-- among these moves one made the subscription of this id, and its calls, newest first, made the items that the moves since
-- then make in it, and no others
pub record IsMadeSince (id : ℕ) (moves : List Move) (spec : SubSpec) (start : ℕ) (calls : List Call) : Type 0 where
  pub before : List Move
  pub since : List Move
  pub are : moves ≡ before ++ Makes spec start ∷ since
  pub own : spec.id ≡ id
  pub items : reverse (items_made calls) ≡ made_in id since
