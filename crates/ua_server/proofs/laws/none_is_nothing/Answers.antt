use Rattle.ua_server.proofs.Taking.{nobody_takes, none_taken}
use Rattle.ua_server.proofs.Nothing.{closes_nothing, opens_nothing}
use Rattle.ua_server.proofs.laws.none_is_nothing.Goals as goal

pub returns-clause-bytes : goal.returns-clause-bytes
returns-clause-bytes c = λ conn s. none_taken conn s

pub returns-clause-unknown : goal.returns-clause-unknown
returns-clause-unknown c = λ conn bytes s found. nobody_takes conn bytes s found

pub returns-clause-closed : goal.returns-clause-closed
returns-clause-closed c = λ conn s found. closes_nothing conn s found

pub returns-clause-opened : goal.returns-clause-opened
returns-clause-opened c = λ conn s old. opens_nothing conn s old
