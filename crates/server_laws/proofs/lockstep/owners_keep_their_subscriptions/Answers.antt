use Rattle.server_laws.proofs.Giving.{gone_only, transfers_own}
use Rattle.server_laws.proofs.Holding.{owners_keep}
use Rattle.server_laws.proofs.lockstep.owners_keep_their_subscriptions.Goals as goal

pub returns-clause-given : goal.returns-clause-given
returns-clause-given c = transfers_own

pub returns-clause-kept : goal.returns-clause-kept
returns-clause-kept c = owners_keep

pub returns-clause-gone : goal.returns-clause-gone
returns-clause-gone c = gone_only
