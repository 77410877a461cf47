use Rattle.ua_chunks.proofs.Hearing.{all_go, all_send, broken_is, deaf_is, everything_begins, everything_brings, heard_append}
use Rattle.ua_chunks.proofs.laws.everything_put_is_heard.Goals as goal

pub returns-clause-fed : goal.returns-clause-fed
returns-clause-fed c = everything_brings

pub returns-clause-heard : goal.returns-clause-heard
returns-clause-heard c = λ place actions s a sends step may. (all_go place actions s a sends step may).heard_is

pub returns-clause-in_step : goal.returns-clause-in_step
returns-clause-in_step c = λ place actions s a sends step may. (all_go place actions s a sends step may).in_step

pub returns-clause-tokens : goal.returns-clause-tokens
returns-clause-tokens c = λ place actions s a sends step may. (all_go place actions s a sends step may).tokens

pub returns-clause-sending : goal.returns-clause-sending
returns-clause-sending c = all_send

pub returns-clause-front : goal.returns-clause-front
returns-clause-front c = everything_begins

pub returns-clause-parts : goal.returns-clause-parts
returns-clause-parts c = heard_append

pub returns-clause-deaf : goal.returns-clause-deaf
returns-clause-deaf c = deaf_is

pub returns-clause-broken : goal.returns-clause-broken
returns-clause-broken c = broken_is
