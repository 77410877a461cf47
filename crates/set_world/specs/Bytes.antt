-- The nodes of a set over bytes.
use Rattle.std.specs.Prelude.{◌≡◌, ℕ, List, [], ◌++◌, Option, Some, None}
use Rattle.ua_base.specs.declared.modes.SetMode.{SetMode}
use Rattle.set_rules.specs.Nodes.{Nodes}
use Rattle.set_rules.specs.State.{Connection, Slot}
use Rattle.set_rules.specs.World.{Beginning}
use Rattle.ua_server.specs.declared.event.ServerEvent.TheVariants as served
use Rattle.ua_server.specs.State as server
use Rattle.ua_server.specs.Step as serving
use Rattle.ua_client.specs.declared.event.ClientEvent.TheVariants as learned
use Rattle.ua_client.specs.State as client
use Rattle.ua_client.specs.Step as learning
use Rattle.set_world.specs.Texts.{server_config}

abbrev pub nodes : Nodes server.BytesState client.BytesState (List ℕ)
nodes = record {
  nothing = [];
  joined = λ bytes more. bytes ++ more;
  accepts = λ number s. serving.stepped (served.Opened number) s;
  ends = λ number s. serving.stepped (served.Closed number) s;
  hears = λ number bytes s. serving.stepped (served.Bytes number bytes) s;
  feeds = λ change s. serving.stepped (served.Feed change) s;
  ticks = λ ms s. serving.stepped (served.Tick ms) s;
  levels = λ level s. serving.stepped (served.Level level) s;
  answered = server.out_of;
  emptied = server.without_out;
  is_closing = server.is_closing;
  connects = λ number c. learning.stepped (learned.Opened number) c;
  is_refused = λ number c. learning.stepped (learned.Refused number) c;
  loses = λ number c. learning.stepped (learned.Closed number) c;
  learns = λ number bytes c. learning.stepped (learned.Bytes number bytes) c;
  waits = λ ms c. learning.stepped (learned.Tick ms) c;
  asked = client.out_of;
  cleared = client.without_out;
  wish = λ number c. client.wished number c.hub;
  wish_taken = λ number c. record c { hub = client.without_wish number c.hub };
}

-- a life of a server of a set that is used so, of so many servers with so many items
abbrev pub beginning : SetMode → ℕ → ℕ → Beginning server.BytesState
beginning mode servers items number boot current =
    server.new_bytes (server_config mode servers items number boot) current

abbrev pub ByteSlot : Type 0
ByteSlot = Slot server.BytesState (List ℕ)

-- ---- what is in flight to the client is taken

pub record TakesSome (back : List ℕ) (old new : ByteSlot) : Type 0 where
  pub connection : Connection (List ℕ)
  pub stood : old.connection ≡ Some connection
  pub bytes : back ≡ connection.back
  pub left : new ≡ record old { connection = Some (record connection { back = [] }) }

-- from the connection that stands; without one there is nothing to take
abbrev pub Takes : {A : Type 0} → (A → List ℕ) → Option A → ByteSlot → ByteSlot → Type 0
Takes view None old new = (old.connection ≡ None) × (new ≡ old)
Takes view (Some back) old new = TakesSome (view back) old new
