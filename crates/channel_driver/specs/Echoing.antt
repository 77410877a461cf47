-- A core for the rows: it greets, opens a channel, and gives each message back.
use Rattle.std.specs.Prelude.{ℕ, Bool, true, false, nat_lt, min, ◌+◌, ◌-◌, ◌^◌, ◌==◌, List, [], ◌∷◌, length, take, Option, Result, Ok, Err, if◌then◌else◌}
use Rattle.ua_values.specs.Reading.{Fault, input}
use Rattle.ua_chunks.specs.declared.frame.Kind.TheVariants as kind
use Rattle.ua_chunks.specs.declared.greeting.Greeting.{Greeting}
use Rattle.ua_chunks.specs.Bodies.{hello_at, value_of, whole_at, written_error}
use Rattle.ua_channel.specs.declared.ear.Ear.{Ear}
use Rattle.ua_channel.specs.declared.ear.Ear.TheVariants as ear
use Rattle.ua_channel.specs.declared.heard.Heard.{Heard}
use Rattle.ua_channel.specs.declared.heard.Heard.TheVariants as said
use Rattle.ua_channel.specs.declared.wire.Order.{Order}
use Rattle.ua_channel.specs.declared.wire.Order.TheVariants as order
use Rattle.channel_driver.specs.declared.echo.Echo.{Echo}
use Rattle.channel_driver.specs.declared.relay.Relay.{Relay}

-- an error ends it
abbrev pub refused : ℕ → Echo → Echo × List Order
refused code e = (
  record e { ear = ear.Deaf },
  order.Put (record { kind = kind.Err; channel = 0; token = 0; request = 0; body = written_error code }) ∷ [],
)

-- a HEL's sizes are learned, and its numbers given back
abbrev pub greeted_by : Result (Greeting × Option (List ℕ)) Fault → List ℕ → Echo → Echo × List Order
greeted_by (Err fault) body e = refused 0x8007_0000 e
greeted_by (Ok h) body e =
    if nat_lt h.0.receive 8192 then refused 0x8007_0000 e
    else (
      record e { ear = ear.Opening },
      order.Limit (record { size = h.0.receive; max_message = h.0.max_message; max_chunks = h.0.max_chunks })
          ∷ order.Put (record { kind = kind.Ack; channel = 0; token = 0; request = 0; body = take 20 body }) ∷ [],
    )

-- an ACK is taken as it is
abbrev pub greeted : Ear → List ℕ → Echo → Echo × List Order
greeted ear.Hello body e = greeted_by (value_of (whole_at hello_at (input 0 body))) body e
greeted ear.Acknowledge body e = (record e { ear = ear.Opening }, [])
greeted ear.Opening body e = (e, [])
greeted ear.Open body e = (e, [])
greeted ear.Deaf body e = (e, [])

-- each OPN has the next token, and a channel without a number is number 1
abbrev pub number_of : ℕ → ℕ
number_of channel = if channel == 0 then 1 else channel

-- a body that is too long for an OPN is left out
abbrev pub front : List ℕ → List ℕ
front body = if nat_lt 4096 (length body) then [] else body

abbrev pub opened_as : ℕ → ℕ → ℕ → List ℕ → Echo → Echo × List Order
opened_as number token request body e = (
  record { ear = ear.Open; channel = number; token = token },
  order.Renew number token
      ∷ order.Put (record {
        kind = kind.Opn;
        channel = number;
        token = token;
        request = request;
        body = front body;
      })
      ∷ [],
)

abbrev pub opened : ℕ → Bool → ℕ → List ℕ → Echo → Echo × List Order
opened channel false request body e = refused 0x8088_0000 e
opened channel true request body e = opened_as (number_of channel) (min (e.token + 1) (2 ^ 32 - 1)) request body e

abbrev pub answer_of : Heard → Echo → Echo × List Order
answer_of (said.Greeting body) e = greeted e.ear body e
answer_of (said.Opening channel follows request body) e = opened channel follows request body e
answer_of (said.Message request body) e = (
  e,
  order.Put (record { kind = kind.Msg; channel = e.channel; token = e.token; request = request; body = body }) ∷ [],
)
answer_of said.Close e = (record e { ear = ear.Deaf }, [])
answer_of (said.Fault code) e = refused code e

-- ---- a hub for the rows

-- each message is given to the connection of the next number, until a fault or a CLO comes anywhere
abbrev pub relay_ear : Relay → Ear
relay_ear r = if r.is_deaf then ear.Deaf else ear.Open

abbrev pub relayed : ℕ → Heard → Relay → Relay × List (ℕ × Order)
relayed conn (said.Greeting body) r = (r, [])
relayed conn (said.Opening channel follows request body) r = (r, [])
relayed conn (said.Message request body) r = (
  r,
  (min (conn + 1) (2 ^ 32 - 1), order.Put (record { kind = kind.Msg; channel = 0; token = 0; request = request; body = body })) ∷ [],
)
relayed conn said.Close r = (record { is_deaf = true }, [])
relayed conn (said.Fault code) r = (record { is_deaf = true }, [])
