-- The ends of a server over bytes, and its connections.
use Rattle.std.specs.Prelude.{◌≡◌, ℕ, List, [], ◌∷◌}
use Rattle.std.specs.Map.{keys_of}
use Rattle.server_laws.specs.Numbers.{RiseTo, conn_numbers}
use Rattle.ua_server.specs.declared.event.ServerEvent.{ServerEvent}
use Rattle.ua_server.specs.State.{BytesState}
use Rattle.ua_server.specs.Step.{stepped}

-- after these events, newest first
abbrev pub bytes_after : List ServerEvent → BytesState → BytesState
bytes_after [] s = s
bytes_after (event ∷ earlier) s = stepped event (bytes_after earlier s)

-- the numbers of its ends
abbrev pub end_numbers : BytesState → List ℕ
end_numbers s = keys_of s.channels

-- they are those of its connections, which rise
pub record Matches (s : BytesState) : Type 0 where
  pub same : end_numbers s ≡ conn_numbers s.hub
  pub rise : RiseTo s.hub.highest (conn_numbers s.hub)
