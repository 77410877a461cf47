use Rattle.ua_structures.proofs.BodyLaws.{foreign_unknown}
use Rattle.ua_structures.proofs.laws.foreign_is_unknown.Goals as goal

pub returns : goal.returns
returns g c = foreign_unknown g.B.Body.family
