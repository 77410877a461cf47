use Rattle.ua_structures.proofs.Headers.{type_said}
use Rattle.ua_structures.proofs.front.read_type.Goals as goal

pub returns-clause-spelled : goal.returns-clause-spelled
returns-clause-spelled c = type_said c.args.bytes.now c.read_type_alone.result c.read_type_alone.ensures
