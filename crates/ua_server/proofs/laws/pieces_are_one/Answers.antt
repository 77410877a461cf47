use Rattle.ua_server.proofs.Taking.{taken_cut}
use Rattle.ua_server.proofs.laws.pieces_are_one.Goals as goal

pub returns : goal.returns
returns c = λ conn first second s. taken_cut conn first second s
