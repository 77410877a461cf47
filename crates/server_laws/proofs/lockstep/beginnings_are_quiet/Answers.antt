use Rattle.server_laws.proofs.Beginning.{none_waits, quiet_since, republishes_kept, state_join, transfers_kept}
use Rattle.server_laws.proofs.lockstep.beginnings_are_quiet.Goals as goal

pub returns-clause-alone : goal.returns-clause-alone
returns-clause-alone c = none_waits

pub returns-clause-stays : goal.returns-clause-stays
returns-clause-stays c = quiet_since

pub returns-clause-transferred : goal.returns-clause-transferred
returns-clause-transferred c = transfers_kept

pub returns-clause-republished : goal.returns-clause-republished
returns-clause-republished c = republishes_kept

pub returns-clause-joined : goal.returns-clause-joined
returns-clause-joined c = λ earlier later. state_join later earlier
