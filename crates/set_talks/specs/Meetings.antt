-- Where the connections of a link and those of its server's lives meet.
use Rattle.std.specs.Prelude.{ℕ, List, [], ◌∷◌, ◌++◌}
use Rattle.set_model.specs.declared.source.Change.{Change}
use Rattle.ua_channel.specs.Orders.{puts_of}
use Rattle.server_rules.specs.declared.config.ServerConfig.{ServerConfig}
use Rattle.server_rules.specs.State.{ServerState, new_server}
use Rattle.server_rules.specs.Step as server
use Rattle.link_rules.specs.Said.{orders_of}
use Rattle.set_talks.specs.Heard.{AreHeardOf}
use Rattle.set_talks.specs.Lives.{heard_on, put_on}
use Rattle.client_dials.specs.Spoken.{Spoken}

-- ---- lives

-- a life of a server: what it began with, all that happened to it, newest first, and the numbers of its connections, newest
-- first
pub record Life : Type 0 where
  pub config : ServerConfig
  pub current : List Change
  pub happenings : List server.Happening
  pub connections : List ℕ

abbrev pub start_of : Life → ServerState
start_of life = new_server life.config life.current

-- one connection of a life
pub record Served : Type 0 where
  pub life : Life
  pub number : ℕ

abbrev pub served_by : Life → List ℕ → List Served
served_by life [] = []
served_by life (number ∷ earlier) = record { life = life; number = number } ∷ served_by life earlier

-- of all these lives
abbrev pub connections_of : List Life → List Served
connections_of [] = []
connections_of (life ∷ earlier) = served_by life life.connections ++ connections_of earlier

-- ---- two ends

-- what each end of a connection heard is heard of the messages that the other one put, one after another
pub record IsShared (spoken : Spoken) (served : Served) : Type 0 where
  pub back : AreHeardOf spoken.heard (put_on served.number served.life.happenings (start_of served.life))
  pub there : AreHeardOf (heard_on served.number served.life.happenings) (puts_of (orders_of spoken.said))

-- each connection of the link is one of the lives, in the same order
abbrev pub AreShared : List Spoken → List Served → Type 0
AreShared [] [] = Unit {0}
AreShared [] (served ∷ others) = ⊥
AreShared (spoken ∷ earlier) [] = ⊥
AreShared (spoken ∷ earlier) (served ∷ others) = IsShared spoken served × AreShared earlier others

abbrev pub AllShared : List Spoken → List Life → Type 0
AllShared all lives = AreShared all (connections_of lives)
