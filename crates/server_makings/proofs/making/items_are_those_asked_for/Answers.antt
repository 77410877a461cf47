use Rattle.server_makings.proofs.Living.{items_asked}
use Rattle.server_makings.proofs.making.items_are_those_asked_for.Goals as goal

pub returns : goal.returns
returns c = items_asked c.subscriptions_are_calls.ensures.step
