-- A link that has a connection.
use Rattle.std.specs.Prelude.{◌≡◌, ◌≢◌, ◌||◌, ℕ, true}
use Rattle.link_rules.specs.Closing.{stands_in}
use Rattle.link_rules.specs.State.{LinkState}
use Rattle.link_rules.specs.Step as link
use Rattle.client_rules.specs.Acts as client

-- it uses the connection, or wishes that it be closed
abbrev pub HoldsConnection : LinkState → Type 0
HoldsConnection l = (stands_in l.phase || l.closes) ≡ true

-- no connection of the link ends by this
abbrev pub IsQuiet : link.Happening → Type 0
IsQuiet (link.Opens url) = ⊥
IsQuiet link.Refuses = ⊥
IsQuiet link.Closes = ⊥
IsQuiet (link.Hears h) = Unit {0}
IsQuiet (link.Ticks ms) = Unit {0}
IsQuiet (link.Wants mode) = Unit {0}
IsQuiet link.Dials = Unit {0}
IsQuiet link.Takes = ⊥

-- no connection to this server is opened, refused or closed
abbrev pub IsBeside : ℕ → client.Happening → Type 0
IsBeside number (client.Opens other) = other ≢ number
IsBeside number (client.Refuses other) = other ≢ number
IsBeside number (client.Hears other h) = Unit {0}
IsBeside number (client.Closes other) = other ≢ number
IsBeside number (client.Ticks ms) = Unit {0}
