use Rattle.ua_structures.proofs.Headers.{header_said}
use Rattle.ua_structures.proofs.front.read_header.Goals as goal

pub returns-clause-spelled : goal.returns-clause-spelled
returns-clause-spelled c = header_said c.args.bytes.now c.read_header_alone.result c.read_header_alone.ensures
