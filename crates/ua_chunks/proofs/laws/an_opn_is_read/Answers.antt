use Rattle.ua_chunks.proofs.BodyLaws.{opn_again, policy_again}
use Rattle.ua_chunks.proofs.Putting.{opn_fed, opn_fits, opn_framed, opn_long, opn_sends, opn_step}
use Rattle.ua_chunks.proofs.laws.an_opn_is_read.Goals as goal

pub returns-clause-frame : goal.returns-clause-frame
returns-clause-frame c = opn_framed

pub returns-clause-long : goal.returns-clause-long
returns-clause-long c = opn_long

pub returns-clause-size : goal.returns-clause-size
returns-clause-size c = opn_fits

pub returns-clause-fed : goal.returns-clause-fed
returns-clause-fed c = opn_fed

pub returns-clause-policy : goal.returns-clause-policy
returns-clause-policy c = policy_again

pub returns-clause-read : goal.returns-clause-read
returns-clause-read c = opn_again

pub returns-clause-in_step : goal.returns-clause-in_step
returns-clause-in_step c = opn_step

pub returns-clause-sending : goal.returns-clause-sending
returns-clause-sending c = opn_sends
