use Rattle.server_tellings.proofs.Sending.{carried_sent}
use Rattle.server_tellings.proofs.Serving.{step_carries}
use Rattle.server_tellings.proofs.carried.publish_responses_are_messages.Goals as goal

pub returns-clause-step : goal.returns-clause-step
returns-clause-step c = step_carries

pub returns-clause-sent : goal.returns-clause-sent
returns-clause-sent c = carried_sent
