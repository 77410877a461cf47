use Rattle.subscription.proofs.Streaming.{in_order}
use Rattle.subscription.proofs.laws.entries_leave_in_order.Goals as goal

pub returns : goal.returns
returns c = in_order
