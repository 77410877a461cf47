-- What is in flight between the client and a server.
use Rattle.std.specs.Prelude.{ℕ, Bool, true, false, Option, Some, None, length}
use Rattle.direct_world.specs.Server.{place_in}
use Rattle.set_rules.specs.State.{Connection, SetState}
use Rattle.set_rules.specs.Moves.{slot_at}

module _ {W : Type 0} (nothing : W) where
  -- in one direction of a connection
  abbrev pub flight_in : Option (Connection W) → Bool → W
  flight_in None to_server = nothing
  flight_in (Some c) true = c.there
  flight_in (Some c) false = c.back

  abbrev pub flight_at : {S C : Type 0} → Option ℕ → Bool → SetState S C W → W
  flight_at None to_server w = nothing
  flight_at (Some place) to_server w = flight_in (slot_at place w).connection to_server

  -- to the server of this number, or from it: nothing where no connection stands, or there is no such server
  abbrev pub flight_of : {S C : Type 0} → ℕ → Bool → SetState S C W → W
  flight_of number to_server w = flight_at (place_in number (length w.slots)) to_server w
