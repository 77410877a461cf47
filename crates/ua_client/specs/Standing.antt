-- How the parts of a client over whole messages fit each other.
use Rattle.std.specs.Prelude.{◌≡◌, ◌≤◌, ℕ, true, false, length, Option, Some, None}
use Rattle.delivery_log.specs.Log.{IsServerWithin}
use Rattle.client_rules.specs.State.{ClientState, is_server}

-- each server has a link and its joints, each item a stamp last delivered, and the cursor is at one of the servers
pub record Stands (servers links joints lasts items cursor : ℕ) : Type 0 where
  pub each_link : links ≡ servers
  pub each_joint : joints ≡ servers
  pub each_last : lasts ≡ items
  pub begins : 1 ≤ cursor
  pub ends : cursor ≤ servers

-- it has a server of this number
abbrev pub HasServer : ℕ → ClientState → Type 0
HasServer server c = IsServerWithin (length c.links) server

-- a connection's number as that of a server, if it is one
pub record IsServerOf (server conn : ℕ) (c : ClientState) : Type 0 where
  pub same : server ≡ conn
  pub known : is_server conn c ≡ true
  pub has : HasServer server c

abbrev pub Names : Option ℕ → ℕ → ClientState → Type 0
Names None conn c = is_server conn c ≡ false
Names (Some server) conn c = IsServerOf server conn c
