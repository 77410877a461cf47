-- Nodes of a set over messages that record all that happens to them.
use Rattle.std.specs.Prelude.{ℕ, ◌∷◌, List, [], ◌++◌, Option, Some, None, is_some, if◌then◌else◌}
use Rattle.ua_channel.specs.State.{WireState, is_deaf}
use Rattle.ua_channel.specs.Messages.{hearing_of}
use Rattle.message_ends.specs.Ends.{MessageEnd}
use Rattle.message_ends.specs.Talk.{heard_one}
use Rattle.server_rules.specs.Connecting.{is_above}
use Rattle.server_rules.specs.Step as server
use Rattle.server_messages.specs.Messages as serving
use Rattle.client_rules.specs.State.{is_server}
use Rattle.client_rules.specs.Acts as client
use Rattle.client_rules.specs.Step.{Ends, Goes, Moment, Takes, ears}
use Rattle.client_messages.specs.Messages as learning
use Rattle.set_rules.specs.Nodes.{Nodes}
use Rattle.set_rules.specs.World.{Beginning}
use Rattle.set_fronts.specs.Below.{Client, Server, nodes}

-- a life of a server, and all that happened to it, newest first
pub record RecordedLife : Type 0 where
  pub talk : Server
  pub happenings : List server.Happening

-- a client, and all its moments, in their order
pub record RecordedClient : Type 0 where
  pub talk : Client
  pub moments : List Moment

-- ---- a server

-- a message that comes is heard where an end stands that isn't deaf
abbrev pub heard_here : Option MessageEnd → ℕ → WireState → Server → List server.Happening → List server.Happening
heard_here None conn wire t past = past
heard_here (Some e) conn wire t past =
    if is_deaf (server.ears conn t.hub) then past
    else server.Hears conn (hearing_of (server.ears conn t.hub) wire e.tokens).heard ∷ past

abbrev pub heard_in : ℕ → List WireState → Server → List server.Happening → List server.Happening
heard_in conn [] t past = past
heard_in conn (wire ∷ wires) t past =
    heard_in conn wires (heard_one server.ears serving.answers conn wire t) (heard_here (t.ends conn) conn wire t past)

-- what opens or closes nothing doesn't happen
abbrev pub opens_in : ℕ → Server → List server.Happening → List server.Happening
opens_in conn t past = if is_above t.hub.highest conn then server.Opens conn ∷ past else past

abbrev pub closes_in : ℕ → Server → List server.Happening → List server.Happening
closes_in conn t past = if is_some (t.ends conn) then server.Closes conn ∷ past else past

-- ---- a client

abbrev pub learned_here : Option MessageEnd → ℕ → WireState → Client → List Moment
learned_here None number wire t = []
learned_here (Some e) number wire t =
    if is_deaf (ears number t.hub) then []
    else Goes (client.Hears number (hearing_of (ears number t.hub) wire e.tokens).heard) ∷ []

abbrev pub learned_in : ℕ → List WireState → Client → List Moment
learned_in number [] t = []
learned_in number (wire ∷ wires) t =
    learned_here (t.ends number) number wire t ++ learned_in number wires (heard_one ears learning.answers number wire t)

-- an event of a server that the client has, and its end
abbrev pub event_of : ℕ → Client → List Moment → List Moment
event_of number t moments = if is_server number t.hub then moments ++ Ends ∷ [] else []

abbrev pub happened : (Client → Client) → List Moment → RecordedClient → RecordedClient
happened change more c = record { talk = change c.talk; moments = c.moments ++ more }

-- ---- both

abbrev pub recording : Nodes RecordedLife RecordedClient (List WireState)
recording = record {
  nothing = nodes.nothing;
  joined = nodes.joined;
  accepts = λ conn s. record { talk = nodes.accepts conn s.talk; happenings = opens_in conn s.talk s.happenings };
  ends = λ conn s. record { talk = nodes.ends conn s.talk; happenings = closes_in conn s.talk s.happenings };
  hears = λ conn wires s. record { talk = nodes.hears conn wires s.talk; happenings = heard_in conn wires s.talk s.happenings };
  feeds = λ change s. record { talk = nodes.feeds change s.talk; happenings = server.Feeds change ∷ s.happenings };
  ticks = λ ms s. record { talk = nodes.ticks ms s.talk; happenings = server.Ticks ms ∷ s.happenings };
  levels = λ level s. record { talk = nodes.levels level s.talk; happenings = server.Levels level ∷ s.happenings };
  answered = λ conn s. nodes.answered conn s.talk;
  emptied = λ conn s. record s { talk = nodes.emptied conn s.talk };
  is_closing = λ conn s. nodes.is_closing conn s.talk;
  connects = λ number c. happened (nodes.connects number) (event_of number c.talk (Goes (client.Opens number) ∷ [])) c;
  is_refused = λ number c. happened (nodes.is_refused number) (event_of number c.talk (Goes (client.Refuses number) ∷ [])) c;
  loses = λ number c. happened (nodes.loses number) (event_of number c.talk (Goes (client.Closes number) ∷ [])) c;
  learns = λ number wires c. happened (nodes.learns number wires) (event_of number c.talk (learned_in number wires c.talk)) c;
  waits = λ ms c. happened (nodes.waits ms) (Goes (client.Ticks ms) ∷ Ends ∷ []) c;
  asked = λ number c. nodes.asked number c.talk;
  cleared = λ number c. record c { talk = nodes.cleared number c.talk };
  wish = λ number c. nodes.wish number c.talk;
  wish_taken = λ number c. happened (nodes.wish_taken number) (Takes number ∷ []) c;
}

abbrev pub recorded_life : Beginning Server → Beginning RecordedLife
recorded_life begins number boot current = record { talk = begins number boot current; happenings = [] }

abbrev pub recorded_client : Client → RecordedClient
recorded_client talk = record { talk = talk; moments = [] }
