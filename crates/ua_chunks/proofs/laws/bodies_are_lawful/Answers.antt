use Rattle.ua_chunks.proofs.BodyLaws.{error_lawful, greeting_lawful, hello_lawful, opn_lawful}
use Rattle.ua_chunks.proofs.laws.bodies_are_lawful.Goals as goal

pub returns-clause-hello : goal.returns-clause-hello
returns-clause-hello c = hello_lawful

pub returns-clause-ack : goal.returns-clause-ack
returns-clause-ack c = greeting_lawful

pub returns-clause-err : goal.returns-clause-err
returns-clause-err c = error_lawful

pub returns-clause-opn : goal.returns-clause-opn
returns-clause-opn c = opn_lawful
