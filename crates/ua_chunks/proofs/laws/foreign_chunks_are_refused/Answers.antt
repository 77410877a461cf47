use Rattle.ua_chunks.proofs.Leading.{foreign_channel, foreign_token, wrong_number}
use Rattle.ua_chunks.proofs.laws.foreign_chunks_are_refused.Goals as goal

pub returns-clause-channel : goal.returns-clause-channel
returns-clause-channel c = foreign_channel

pub returns-clause-token : goal.returns-clause-token
returns-clause-token c = foreign_token

pub returns-clause-number : goal.returns-clause-number
returns-clause-number c = wrong_number
