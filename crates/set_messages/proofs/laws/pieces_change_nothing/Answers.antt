use Rattle.set_messages.specs.Nodes.{beginning}
use Rattle.set_messages.specs.World.{new_messages}
use Rattle.set_messages.proofs.Pieces.{no_pieces}
use Rattle.set_messages.proofs.laws.pieces_change_nothing.Goals as goal

pub returns : goal.returns
returns c = λ mode servers items queue oldest lines.
    no_pieces (beginning mode servers items) items lines (new_messages mode servers items queue oldest)
