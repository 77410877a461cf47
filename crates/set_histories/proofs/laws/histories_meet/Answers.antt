use Rattle.std.proofs.Common.{refl}
use Rattle.client_messages.specs.Messages as learning
use Rattle.set_fronts.specs.Below.{client_config, beginning}
use Rattle.set_fronts.proofs.Lines.{fronts}
use Rattle.set_histories.specs.Recording.{recorded_client, recorded_life, recording}
use Rattle.set_histories.proofs.laws.histories_meet.Goals as goal

pub returns : goal.returns
returns c = λ mode servers items queue oldest lines.
    fronts recording refl (λ x y. refl) (recorded_life (beginning mode servers items)) items lines servers
    (recorded_client (learning.new_talk (client_config mode servers items queue oldest)))
