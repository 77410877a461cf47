use Rattle.ua_chunks.proofs.BodyCodecs.{opn_is}
use Rattle.ua_chunks.proofs.opening.read_opn.Goals as goal

pub returns-clause-spelled : goal.returns-clause-spelled
returns-clause-spelled c = opn_is c.args.body.now c.whole_opn.result c.whole_opn.ensures
