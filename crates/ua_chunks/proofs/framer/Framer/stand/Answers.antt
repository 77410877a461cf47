use Rattle.std.proofs.Common.{subst}
use Rattle.ua_chunks.specs.Framing.{IsSettled}
use Rattle.ua_chunks.proofs.Pieces.{nothing_fed, nothing_framed}
use Rattle.ua_chunks.proofs.framer.Framer.stand.Goals as goal

pub returns-clause-state : goal.returns-clause-state
returns-clause-state c = nothing_fed c.args.self.now (subst IsSettled c.self.view_is c.self.invariant)

pub returns-clause-frames : goal.returns-clause-frames
returns-clause-frames c = nothing_framed c.args.self.now (subst IsSettled c.self.view_is c.self.invariant)
