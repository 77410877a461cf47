use Rattle.std.proofs.Common.{sym}
use Rattle.scenario.proofs.FaultLemmas.{may_follow}
use Rattle.scenario.proofs.reader.Reader.step.Goals as goal

pub take-requires : goal.take-requires
take-requires c = may_follow c.args.rules c.args.self.now c.args.text.now c.in-Ok.line (sym c.in-Ok.ensures)
