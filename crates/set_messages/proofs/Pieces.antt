-- How bytes are cut is nothing to a set over messages.
use Rattle.std.proofs.Common.{◌≡◌, ℕ, List, [], ◌∷◌, refl}
use Rattle.scenario.specs.declared.line.Line.{Line}
use Rattle.scenario.specs.declared.line.Line.TheVariants as line
use Rattle.set_rules.specs.World.{Beginning, after, after_all}
use Rattle.set_messages.specs.Nodes.{Server, nodes}
use Rattle.set_messages.specs.Showing.{without_pieces}
use Rattle.set_messages.specs.World.{MessageSet}

pub no_pieces : (begins : Beginning Server) (items : ℕ) (lines : List Line) (m : MessageSet)
    → after_all nodes begins items lines m ≡ after_all nodes begins items (without_pieces lines) m
no_pieces begins items [] m = refl
no_pieces begins items (line.Piece bytes ∷ lines) m = no_pieces begins items lines m
no_pieces begins items (l ∷ lines) m = no_pieces begins items lines (after nodes begins items l m)
