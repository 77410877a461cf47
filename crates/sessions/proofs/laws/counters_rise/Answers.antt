use Rattle.std.proofs.Common.{arith}
use Rattle.sessions.proofs.Counters.{given_rise}
use Rattle.sessions.specs.Table.{no_sessions}
use Rattle.sessions.proofs.laws.counters_rise.Goals as goal

pub returns : goal.returns
returns c = λ boot calls. given_rise calls (no_sessions boot) 0 (omega arith)
