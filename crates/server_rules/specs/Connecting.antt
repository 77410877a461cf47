-- What comes and goes with a connection, and what is heard on it (OPC 10000-6, 6.7 and 7.1).
use Rattle.std.specs.Prelude.{ℕ, min, nat_lt, nat_le, not, ◌||◌, List, [], ◌∷◌, ◌++◌, length, filter, Bool, true, false, Option, Some, None, Result, Ok, Err, if◌then◌else◌}
use Rattle.ua_base.specs.Status.{bad_decoding_error}
use Rattle.ua_values.specs.Reading.{Fault, input}
use Rattle.ua_chunks.specs.declared.greeting.Greeting.{Greeting}
use Rattle.ua_chunks.specs.Bodies.{hello_at, value_of, whole_at}
use Rattle.ua_chunks.specs.Sending.{limit_of, with_limits}
use Rattle.ua_channel.specs.declared.ear.Ear.{Ear}
use Rattle.ua_channel.specs.declared.ear.Ear.TheVariants as ear
use Rattle.ua_channel.specs.declared.heard.Heard.{Heard}
use Rattle.ua_channel.specs.declared.heard.Heard.TheVariants as heard
use Rattle.ua_channel.specs.State.{LimitState, first_sending}
use Rattle.sessions.specs.Table.{unbound}
use Rattle.server_rules.specs.declared.conn.Conn.{Conn}
use Rattle.server_rules.specs.State.{ServerState, conn_at, is_conn, with_conn}
use Rattle.server_rules.specs.Said.{Acknowledged, Did, Limited, nothing}
use Rattle.server_rules.specs.Answering.{deafened, refused_on, said_on}
use Rattle.server_rules.specs.Opening.{opening}
use Rattle.server_rules.specs.Requests.{requested}

-- ---- connections

-- with an end that puts as a new one does
abbrev pub new_conn : ℕ → Ear → Conn
new_conn number ear =
    record { number = number; ear = ear; limit = limit_of first_sending; channel = 0; token = 0 }

-- of 32 connections at the most something is heard, those among them that are deaf
abbrev pub first_ear : List Conn → Ear
first_ear conns = if nat_lt (length conns) 32 then ear.Hello else ear.Deaf

-- numbers of connections rise
abbrev pub is_above : Option ℕ → ℕ → Bool
is_above None number = true
is_above (Some highest) number = nat_lt highest number

abbrev pub with_new_conn : ℕ → ServerState → ServerState
with_new_conn number s = record s {
  highest = Some number;
  conns = s.conns ++ new_conn number (first_ear s.conns) ∷ [];
}

unfoldable pub opened : ℕ → ServerState → Did
opened number s = if is_above s.highest number then nothing (with_new_conn number s) else nothing s

-- its sessions are bound to no connection, and what they had queued is dropped
abbrev pub without_conn : ℕ → ServerState → ServerState
without_conn number s = record s {
  conns = filter (λ conn. not (is_conn number conn)) s.conns;
  sessions = unbound number s.sessions;
}

abbrev pub closed_by : Option Conn → ℕ → ServerState → Did
closed_by None number s = nothing s
closed_by (Some conn) number s = nothing (without_conn number s)

unfoldable pub closed : ℕ → ServerState → Did
closed number s = closed_by (conn_at number s.conns) number s

-- ---- a HEL

-- both ends take frames of 8192 bytes (OPC 10000-6, 7.1.2.3)
abbrev pub is_small : Greeting → Bool
is_small hello = nat_lt hello.receive 8192 || nat_lt hello.send 8192

-- frames of 65,536 bytes are the largest here, and a message has 1,048,576 bytes and 64 chunks at most
abbrev pub acknowledgement : Greeting → Greeting
acknowledgement hello = record {
  version = 0;
  receive = min 65536 hello.send;
  send = min 65536 hello.receive;
  max_message = 1048576;
  max_chunks = 64;
}

abbrev pub limits_of : Greeting → LimitState
limits_of hello =
    record { size = hello.receive; max_message = hello.max_message; max_chunks = hello.max_chunks }

-- what an end with these limits puts of a body
abbrev pub limit_with : LimitState → ℕ
limit_with limits = limit_of (with_limits limits.size limits.max_message limits.max_chunks first_sending)

abbrev pub greeted : Greeting → Conn → Conn
greeted hello conn = record conn { ear = ear.Opening; limit = limit_with (limits_of hello) }

unfoldable pub acknowledged : Greeting → Conn → ServerState → Did
acknowledged hello conn s = record {
  state = with_conn (greeted hello conn) s;
  said = said_on conn (Limited (limits_of hello)) ∷ said_on conn (Acknowledged (acknowledgement hello)) ∷ [];
}

abbrev pub greeted_by : Result (Greeting × Option (List ℕ)) Fault → Conn → ServerState → Did
greeted_by (Ok hello) conn s =
    if is_small hello.0 then refused_on conn bad_decoding_error s else acknowledged hello.0 conn s
greeted_by (Err fault) conn s = refused_on conn bad_decoding_error s

unfoldable pub greeting : List ℕ → Conn → ServerState → Did
greeting body conn s = greeted_by (value_of (whole_at hello_at (input 0 body))) conn s

-- ---- what is heard

-- a CLO ends the connection, and is not answered (OPC 10000-6, 7.1.4)
unfoldable pub closing : Conn → ServerState → Did
closing conn s = nothing (with_conn (deafened conn) s)

abbrev pub hears_on : Heard → Conn → ServerState → Did
hears_on (heard.Greeting body) conn s = greeting body conn s
hears_on (heard.Opening channel follows request body) conn s = opening channel follows request body conn s
hears_on (heard.Message request body) conn s = requested conn.number request body s
hears_on heard.Close conn s = closing conn s
hears_on (heard.Fault code) conn s = refused_on conn code s

abbrev pub hears_by : Option Conn → Heard → ServerState → Did
hears_by None h s = nothing s
hears_by (Some conn) h s = hears_on h conn s

-- on a connection that isn't there nothing is heard
unfoldable pub hears : ℕ → Heard → ServerState → Did
hears number h s = hears_by (conn_at number s.conns) h s
