use Rattle.subscription.proofs.Sent.{given_is, acknowledged_gone, most_kept}
use Rattle.subscription.proofs.laws.sent_messages_are_kept.Goals as goal

pub returns-clause-given : goal.returns-clause-given
returns-clause-given c = given_is

pub returns-clause-acknowledged : goal.returns-clause-acknowledged
returns-clause-acknowledged c = acknowledged_gone

pub returns-clause-most : goal.returns-clause-most
returns-clause-most c = most_kept
