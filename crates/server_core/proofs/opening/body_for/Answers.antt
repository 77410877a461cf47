use Rattle.std.proofs.Common.{rules}
use Rattle.server_core.proofs.Short.{short_of}
use Rattle.server_core.proofs.opening.body_for.Goals as goal

pub returns-clause-short : goal.returns-clause-short
returns-clause-short c = short_of _ c.args.conn.now c.args.asked c.args.server.now (search rules)
