use Rattle.server_tellings.proofs.Keeping.{kept_then}
use Rattle.server_tellings.proofs.Repeating.{kept_so}
use Rattle.server_tellings.proofs.carried.repeated_messages_were_sent.Goals as goal

pub returns-clause-step : goal.returns-clause-step
returns-clause-step c = λ conn number body asked s message reads. kept_then conn number body asked s reads message

pub returns-clause-life : goal.returns-clause-life
returns-clause-life c = kept_so c.subscriptions_are_calls.ensures.step
