use Rattle.ua_structures.proofs.Bodies.{body_said}
use Rattle.ua_structures.proofs.body.read_body.Goals as goal

pub returns-clause-spelled : goal.returns-clause-spelled
returns-clause-spelled g c = body_said g.B.Body.family c.args.bytes.now c.read_opened.result c.read_opened.ensures
