use Rattle.ua_chunks.specs.Assembly.{new_assembly}
use Rattle.ua_chunks.proofs.Leading.{put_begins}
use Rattle.ua_chunks.proofs.Putting.{all_come, all_framed, all_small, comes, in_step_new, put_brings, whole_arrives}
use Rattle.ua_chunks.proofs.laws.what_is_put_arrives.Goals as goal

pub returns-clause-frames : goal.returns-clause-frames
returns-clause-frames c = all_framed

pub returns-clause-sizes : goal.returns-clause-sizes
returns-clause-sizes c = all_small

pub returns-clause-messages : goal.returns-clause-messages
returns-clause-messages c = λ place messages s a sends step put. (all_come place messages s a sends step put).come

pub returns-clause-in_step : goal.returns-clause-in_step
returns-clause-in_step c = λ place messages s a sends step put. (all_come place messages s a sends step put).in_step

pub returns-clause-sending : goal.returns-clause-sending
returns-clause-sending c = λ place messages s sends put. (all_come place messages s (new_assembly s.channel s.token) sends (in_step_new s) put).sending

pub returns-clause-whole : goal.returns-clause-whole
returns-clause-whole c = whole_arrives

pub returns-clause-fed : goal.returns-clause-fed
returns-clause-fed c = put_brings

pub returns-clause-leads : goal.returns-clause-leads
returns-clause-leads c = λ place m s a sends step put. (comes place m s a sends step put).leads

pub returns-clause-tokens : goal.returns-clause-tokens
returns-clause-tokens c = λ place m s a sends step put. (comes place m s a sends step put).tokens

pub returns-clause-front : goal.returns-clause-front
returns-clause-front c = put_begins
