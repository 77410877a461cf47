-- The world of a set over bytes.
use Rattle.std.specs.Prelude.{ℕ, Bool, false, List}
use Rattle.ua_base.specs.declared.modes.SetMode.{SetMode}
use Rattle.set_rules.specs.State.{SetState}
use Rattle.set_rules.specs.World.{after, new_set, new_slots}
use Rattle.scenario.specs.declared.line.Line.{Line}
use Rattle.ua_server.specs.State as server
use Rattle.ua_client.specs.State as client
use Rattle.set_world.specs.Bytes.{ByteSlot, beginning, nodes}
use Rattle.set_world.specs.Texts.{client_config}

abbrev pub ByteSet : Type 0
ByteSet = SetState server.BytesState client.BytesState (List ℕ)

-- how the set is used, how many servers and items it has, the set itself, and whether memory was refused
pub record WorldState : Type 0 where
  pub mode : SetMode
  pub servers : ℕ
  pub items : ℕ
  pub set : ByteSet
  pub failed : Bool

-- the first so many servers of a set that begins
abbrev pub first_slots : SetMode → ℕ → ℕ → ℕ → List ByteSlot
first_slots mode servers items count = new_slots (beginning mode servers items) count

abbrev pub new_world : SetMode → ℕ → ℕ → ℕ → Bool → WorldState
new_world mode servers items queue oldest = record {
  mode = mode;
  servers = servers;
  items = items;
  set = new_set (beginning mode servers items) servers
      (client.new_bytes (client_config mode servers items queue oldest));
  failed = false;
}

-- what a line makes of it
abbrev pub world_after : Line → WorldState → WorldState
world_after line w = record w { set = after nodes (beginning w.mode w.servers w.items) w.items line w.set }
