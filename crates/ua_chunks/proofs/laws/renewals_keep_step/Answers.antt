use Rattle.ua_chunks.proofs.Putting.{begins_in_step, both_renewed, caught_up, former_taken, limits_in_step}
use Rattle.ua_chunks.proofs.laws.renewals_keep_step.Goals as goal

pub returns-clause-begin : goal.returns-clause-begin
returns-clause-begin c = begins_in_step

pub returns-clause-both : goal.returns-clause-both
returns-clause-both c = both_renewed

pub returns-clause-former : goal.returns-clause-former
returns-clause-former c = former_taken

pub returns-clause-end : goal.returns-clause-end
returns-clause-end c = caught_up

pub returns-clause-limits : goal.returns-clause-limits
returns-clause-limits c = limits_in_step
