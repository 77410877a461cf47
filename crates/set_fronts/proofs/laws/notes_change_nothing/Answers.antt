use Rattle.client_messages.specs.Messages as learning
use Rattle.ua_client.specs.State as client
use Rattle.set_world.specs.Bytes as bytes
use Rattle.set_world.specs.Texts.{client_config}
use Rattle.set_messages.specs.Nodes as messages
use Rattle.set_fronts.proofs.Lines.{same}
use Rattle.set_fronts.proofs.laws.notes_change_nothing.Goals as goal

pub returns-clause-messages : goal.returns-clause-messages
returns-clause-messages c = λ mode servers items queue oldest lines.
    same messages.nodes (messages.beginning mode servers items) items lines servers (learning.new_talk (client_config mode servers items queue oldest))

pub returns-clause-bytes : goal.returns-clause-bytes
returns-clause-bytes c = λ mode servers items queue oldest lines.
    same bytes.nodes (bytes.beginning mode servers items) items lines servers (client.new_bytes (client_config mode servers items queue oldest))
