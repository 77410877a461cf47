use Rattle.ua_structures.proofs.Bodies.{content_said}
use Rattle.ua_structures.proofs.body.read_content.Goals as goal

pub returns-clause-held : goal.returns-clause-held
returns-clause-held g c = content_said g.B.Body.family c.args.object.now c.read_object.result c.read_object.ensures
