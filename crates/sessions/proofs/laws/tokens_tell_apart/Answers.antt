use Rattle.sessions.proofs.TokenLemmas.{apart, found, stranger, wrong_length, no_token}
use Rattle.sessions.proofs.laws.tokens_tell_apart.Goals as goal

pub returns-clause-apart : goal.returns-clause-apart
returns-clause-apart c = apart

pub returns-clause-found : goal.returns-clause-found
returns-clause-found c = found

pub returns-clause-stranger : goal.returns-clause-stranger
returns-clause-stranger c = stranger

pub returns-clause-length : goal.returns-clause-length
returns-clause-length c = wrong_length

pub returns-clause-null : goal.returns-clause-null
returns-clause-null c = no_token
