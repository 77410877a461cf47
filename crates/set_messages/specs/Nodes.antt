-- The nodes of a set over whole messages: in flight are lists of them, with no bytes, no pieces and no numbers of chunks.
use Rattle.std.specs.Prelude.{ℕ, List, [], ◌++◌}
use Rattle.ua_base.specs.declared.modes.SetMode.{SetMode}
use Rattle.ua_channel.specs.State.{WireState}
use Rattle.message_ends.specs.Talk.{Talk, out_of, without_out}
use Rattle.server_rules.specs.State.{ServerState}
use Rattle.server_messages.specs.Messages as serving
use Rattle.client_rules.specs.State.{ClientState}
use Rattle.client_messages.specs.Messages as learning
use Rattle.ua_client.specs.State as client
use Rattle.set_rules.specs.Nodes.{Nodes}
use Rattle.set_rules.specs.World.{Beginning}
use Rattle.set_world.specs.Texts.{server_config}

abbrev pub Server : Type 0
Server = Talk ServerState

abbrev pub Client : Type 0
Client = Talk ClientState

abbrev pub nodes : Nodes Server Client (List WireState)
nodes = record {
  nothing = [];
  joined = λ wires more. wires ++ more;
  accepts = λ number s. serving.opened number s;
  ends = λ number s. serving.closed number s;
  hears = λ number wires s. serving.heard number wires s;
  feeds = λ change s. serving.fed change s;
  ticks = λ ms s. serving.ticked ms s;
  levels = λ level s. serving.leveled level s;
  answered = out_of;
  emptied = without_out;
  is_closing = serving.is_closing;
  connects = λ number c. learning.connects number c;
  is_refused = λ number c. learning.is_refused number c;
  loses = λ number c. learning.closes number c;
  learns = λ number wires c. learning.hears number wires c;
  waits = λ ms c. learning.waits ms c;
  asked = out_of;
  cleared = without_out;
  wish = λ number c. client.wished number c.hub;
  wish_taken = λ number c. learning.without_wish_of number c;
}

-- a life of a server of a set that is used so, of so many servers with so many items
abbrev pub beginning : SetMode → ℕ → ℕ → Beginning Server
beginning mode servers items number boot current = serving.new_talk (server_config mode servers items number boot) current
