-- What a rule of a client does.
use Rattle.std.specs.Prelude.{ℕ, ◌+◌, zero, suc, List, [], ◌∷◌, ◌++◌}
use Rattle.ua_channel.specs.declared.wire.Order.{Order}
use Rattle.client_rules.specs.State.{ClientState}
use Rattle.client_rules.specs.Acts.{ClientAct}

-- what stands after it, the orders for each server's connection, and the acts
pub record ClientDid : Type 0 where
  pub client : ClientState
  pub orders : List (ℕ × Order)
  pub acts : List ClientAct

abbrev pub nothing : ClientState → ClientDid
nothing c = record { client = c; orders = []; acts = [] }

-- a rule that is followed by another one
abbrev pub and_then : (ClientState → ClientDid) → ClientDid → ClientDid
and_then rule did = record {
  client = (rule did.client).client;
  orders = did.orders ++ (rule did.client).orders;
  acts = did.acts ++ (rule did.client).acts;
}

-- the first so many servers, one by one
unfoldable pub each_server : (ℕ → ClientState → ClientDid) → ℕ → ClientState → ClientDid
each_server rule zero c = nothing c
each_server rule (suc count) c = and_then (rule (count + 1)) (each_server rule count c)
