use Rattle.ua_chunks.proofs.BodyLaws.{ack_alone, err_alone, hello_alone}
use Rattle.ua_chunks.proofs.Putting.{whole_fed}
use Rattle.ua_chunks.proofs.laws.greetings_are_read.Goals as goal

pub returns-clause-fed : goal.returns-clause-fed
returns-clause-fed c = whole_fed

pub returns-clause-hello : goal.returns-clause-hello
returns-clause-hello c = hello_alone

pub returns-clause-ack : goal.returns-clause-ack
returns-clause-ack c = ack_alone

pub returns-clause-err : goal.returns-clause-err
returns-clause-err c = err_alone
