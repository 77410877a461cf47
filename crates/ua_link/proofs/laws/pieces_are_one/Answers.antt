use Rattle.ua_channel.proofs.Cutting.{cut_node}
use Rattle.ua_link.specs.Talk.{answer, ears}
use Rattle.ua_link.proofs.Deafening.{deafens}
use Rattle.ua_link.proofs.laws.pieces_are_one.Goals as goal

pub returns : goal.returns
returns c = λ first second s. cut_node ears answer first second s deafens
