-- A client of which nothing is left to be done, and what is called on one.
use Rattle.std.specs.Prelude.{◌≡◌, ℕ, List, [], ◌∷◌}
use Rattle.client_rules.specs.declared.config.ClientConfig.{ClientConfig}
use Rattle.ua_client.specs.declared.event.ClientEvent.{ClientEvent}
use Rattle.ua_client.specs.State.{BytesState, new_bytes, without_out, without_wish}
use Rattle.ua_client.specs.Step.{ended, stepped}

-- the end of an event has no effect: no link dials, and no deaf end holds anything
abbrev pub IsAtRest : BytesState → Type 0
IsAtRest s = ended s ≡ s

-- ---- a client's life

-- an event happens; the bytes for a server are taken, or what is wished for its connection
pub data Call : Type 0 where
  Steps : ClientEvent → Call
  TakesOut : ℕ → Call
  TakesWish : ℕ → Call

abbrev pub called : Call → BytesState → BytesState
called (Steps e) s = stepped e s
called (TakesOut server) s = without_out server s
called (TakesWish server) s = record s { hub = without_wish server s.hub }

abbrev pub called_all : List Call → BytesState → BytesState
called_all [] s = s
called_all (call ∷ calls) s = called_all calls (called call s)

-- after these calls on one that began
abbrev pub life_after : ClientConfig → List Call → BytesState
life_after config calls = called_all calls (new_bytes config)
