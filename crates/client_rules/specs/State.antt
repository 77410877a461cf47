-- What a client that fails over is between two events: plain data, over whole messages (OPC 10000-4, 6.6.2).
use Rattle.std.specs.Prelude.{ℕ, ◌-◌, ◌&&◌, Bool, nat_le, List, length, replicate, None, slice_index_or, slice_set}
use Rattle.delivery_log.specs.State.{LogState}
use Rattle.delivery_log.specs.Log.{new_log}
use Rattle.failover_core.specs.State.{CoreState}
use Rattle.failover_core.specs.Choice.{resting}
use Rattle.link_rules.specs.declared.config.LinkConfig.{LinkConfig}
use Rattle.link_rules.specs.State.{LinkState, new_link}
use Rattle.client_rules.specs.declared.config.ClientConfig.{ClientConfig}

pub record ClientState : Type 0 where
  pub config : ClientConfig
  -- one to each server, that to server 1 first
  pub links : List LinkState
  -- the ServiceLevel that was read of each server last
  pub levels : List ℕ
  -- the choice
  pub core : CoreState
  -- the server that a cold client dials next
  pub cursor : ℕ
  -- how many connections were opened
  pub dials : ℕ
  pub log : LogState

-- ---- a client that begins

abbrev pub link_config : ClientConfig → LinkConfig
link_config config = record {
  items = config.items;
  queue = config.queue;
  oldest = config.oldest;
  rest = resting config.mode;
  start = config.start;
}

abbrev pub servers_of : ClientConfig → ℕ
servers_of config = length config.urls

-- before it dials anybody
abbrev pub idle_client : ClientConfig → ClientState
idle_client config = record {
  config = config;
  links = replicate (servers_of config) (new_link (link_config config));
  levels = replicate (servers_of config) 0;
  core = record { mode = config.mode; active = None };
  cursor = 1;
  dials = 0;
  log = new_log (servers_of config) config.items;
}

-- ---- its servers

abbrev pub is_server : ℕ → ClientState → Bool
is_server server c = nat_le 1 server && nat_le server (length c.links)

abbrev pub link_of : ℕ → ClientState → LinkState
link_of server c = slice_index_or c.links (server - 1) (new_link (link_config c.config))

abbrev pub with_link : ℕ → LinkState → ClientState → ClientState
with_link server l c = record c { links = slice_set c.links (server - 1) l }

abbrev pub level_of : ℕ → ClientState → ℕ
level_of server c = slice_index_or c.levels (server - 1) 0

abbrev pub with_level : ℕ → ℕ → ClientState → ClientState
with_level server level c = record c { levels = slice_set c.levels (server - 1) level }

abbrev pub with_log : LogState → ClientState → ClientState
with_log log c = record c { log = log }
