-- What passes on the connections of a server's life, and of a client, told by all that happened to them.
use Rattle.std.specs.Prelude.{ℕ, ◌==◌, List, [], ◌∷◌, ◌++◌, if◌then◌else◌}
use Rattle.ua_channel.specs.declared.heard.Heard.{Heard}
use Rattle.ua_channel.specs.State.{WireState}
use Rattle.ua_channel.specs.Orders.{puts_of}
use Rattle.ua_channel.specs.Sharing.{own}
use Rattle.server_rules.specs.State.{ServerState}
use Rattle.server_rules.specs.Said.{orders_of}
use Rattle.server_rules.specs.Step as server
use Rattle.server_laws.specs.Course.{said_after}
use Rattle.client_rules.specs.State.{ClientState}
use Rattle.client_rules.specs.Acts as client
use Rattle.client_rules.specs.Step.{Ends, Goes, Moment, Takes, at_moment}

-- ---- a server's life, of which all that happened is told newest first

abbrev pub heard_by : ℕ → server.Happening → List Heard
heard_by conn (server.Hears other h) = if other == conn then h ∷ [] else []
heard_by conn other = []

-- what was heard on a connection, in order
abbrev pub heard_on : ℕ → List server.Happening → List Heard
heard_on conn [] = []
heard_on conn (happening ∷ earlier) = heard_on conn earlier ++ heard_by conn happening

-- the messages that were put on it, in order
abbrev pub put_on : ℕ → List server.Happening → ServerState → List WireState
put_on conn happenings s = puts_of (own conn (orders_of (said_after happenings s)))

-- ---- a client's life, of which all moments are told in their order

-- what was heard and put on one connection to a server
pub record Dial : Type 0 where
  pub heard : List Heard
  pub put : List WireState

abbrev pub new_dial : Dial
new_dial = record { heard = []; put = [] }

abbrev pub on_last : (Dial → Dial) → List Dial → List Dial
on_last change [] = []
on_last change (d ∷ earlier) = change d ∷ earlier

-- a connection that is opened is a new one, and what is heard is heard on the newest
abbrev pub dialled_by : ℕ → client.Happening → ClientState → List Dial → List Dial
dialled_by server (client.Opens other) c dials = if other == server then new_dial ∷ dials else dials
dialled_by server (client.Hears other h) c dials =
    if other == server then on_last (λ d. record d { heard = d.heard ++ h ∷ [] }) dials else dials
dialled_by server other c dials = dials

abbrev pub dialled_at : ℕ → Moment → ClientState → List Dial → List Dial
dialled_at server (Goes happening) c dials = dialled_by server happening c dials
dialled_at server Ends c dials = dials
dialled_at server (Takes other) c dials = dials

-- after a moment, with what the client put at it
abbrev pub dials_with : ℕ → Moment → ClientState → List Dial → List Dial
dials_with server moment c dials =
    on_last (λ d. record d { put = d.put ++ puts_of (own server (at_moment moment c).orders) }) (dialled_at server moment c dials)

-- the connections to a server, newest first
abbrev pub dials_after : ℕ → List Moment → ClientState → List Dial → List Dial
dials_after server [] c dials = dials
dials_after server (moment ∷ moments) c dials =
    dials_after server moments (at_moment moment c).client (dials_with server moment c dials)
