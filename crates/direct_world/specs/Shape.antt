-- How wide a world is: each server has a queue for each item of the log, and the log has joints for each server.
use Rattle.std.specs.Prelude.{◌≡◌, ℕ, ◌^◌, ◌<◌, List, [], ◌∷◌, length}
use Rattle.delivery_log.specs.State.{LogState}
use Rattle.direct_world.specs.State.{ServerState}

-- each server has so many queues
abbrev pub HaveQueues : ℕ → List ServerState → Type 0
HaveQueues items [] = Unit {0}
HaveQueues items (s ∷ servers) = (length s.queues ≡ items) × HaveQueues items servers

pub record IsShaped (servers : List ServerState) (log : LogState) : Type 0 where
  pub queues : HaveQueues (length log.lasts) servers
  pub joints : length log.joints ≡ length servers
  pub few_servers : length servers < 2 ^ 8
  pub few_items : length log.lasts < 2 ^ 8
