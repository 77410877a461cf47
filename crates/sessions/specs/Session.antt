-- One session, and what each call does to it (OPC 10000-4, 5.6 and 5.13.5).
use Rattle.std.specs.Prelude.{ℕ, ◌+◌, ◌==◌, ◌||◌, not, nat_lt, length, drop, List, [], ◌∷◌, ◌++◌, Bool, true, false, if◌then◌else◌, Option, Some, None, Result, Ok, Err, slice_get}
use Rattle.ua_base.specs.Status.{bad_secure_channel_id_invalid, bad_session_not_activated}
use Rattle.sessions.specs.declared.fault.SessionFault.{SessionFault}
use Rattle.sessions.specs.declared.fault.SessionFault.TheVariants.{Code}
use Rattle.sessions.specs.declared.session.Parked.{Parked}
use Rattle.sessions.specs.declared.session.Session.{Session}
use Rattle.sessions.specs.Token.{is_token_of}

-- a session that was just made: bound to this connection, and not activated (5.6.2)
abbrev pub new_session : ℕ → ℕ → Option (List ℕ) → ℕ → ℕ → Session
new_session counter conn uri timeout now = record {
  counter = counter;
  conn = Some conn;
  activated = false;
  uri = uri;
  timeout = timeout;
  last = now;
  queued = [];
}

-- whether it is the session of this counter
abbrev pub is_numbered : ℕ → Session → Bool
is_numbered counter session = session.counter == counter

-- whether it is the session of this token, on the server of this boot number
abbrev pub has_token : ℕ → Option (List ℕ) → Session → Bool
has_token boot token session = is_token_of boot session.counter token

abbrev pub is_conn : ℕ → Option ℕ → Bool
is_conn conn None = false
is_conn conn (Some bound) = bound == conn

-- whether it is bound to this connection
abbrev pub is_bound_to : ℕ → Session → Bool
is_bound_to conn session = is_conn conn session.conn

abbrev pub is_no_conn : Option ℕ → Bool
is_no_conn None = true
is_no_conn (Some bound) = false

-- whether it is bound to no connection
abbrev pub is_unbound : Session → Bool
is_unbound session = is_no_conn session.conn

-- a request on this connection: the session's last one, where the session is bound to it
abbrev pub requested : ℕ → ℕ → Session → Session
requested conn now session = if is_bound_to conn session then record session { last = now } else session

-- what a request that only wants the session bound is told
abbrev pub bound_answer : ℕ → Session → Result ℕ ℕ
bound_answer conn session = if is_bound_to conn session then Ok session.counter else Err bad_secure_channel_id_invalid

-- what any other request is told: bound, then activated
abbrev pub activated_answer : Session → Result ℕ ℕ
activated_answer session = if session.activated then Ok session.counter else Err bad_session_not_activated

abbrev pub check_answer : ℕ → Session → Result ℕ ℕ
check_answer conn session =
    if is_bound_to conn session then activated_answer session else Err bad_secure_channel_id_invalid

-- a first activation comes on the connection on which the session was made; a later one may come on any (5.6.3)
abbrev pub may_activate : ℕ → Session → Bool
may_activate conn session = session.activated || is_bound_to conn session

abbrev pub activate_answer : ℕ → Session → Result ℕ SessionFault
activate_answer conn session =
    if may_activate conn session then Ok session.counter else Err (Code bad_secure_channel_id_invalid)

-- the queued Publishes belong to the connection on which they came
abbrev pub queued_on : ℕ → Session → List Parked
queued_on conn session = if is_bound_to conn session then session.queued else []

-- the session after an activation (5.6.3)
abbrev pub activated_on : ℕ → ℕ → Session → Session
activated_on conn now session =
    record session { conn = Some conn; activated = true; last = now; queued = queued_on conn session }

abbrev pub activated : ℕ → ℕ → Session → Session
activated conn now session = if may_activate conn session then activated_on conn now session else session

-- the session on no connection, without its queued Publishes
abbrev pub unbound : Session → Session
unbound session = record session { conn = None; queued = [] }

-- what the end of a connection does to a session
abbrev pub unbound_from : ℕ → Session → Session
unbound_from conn session = if is_bound_to conn session then unbound session else session

-- the moment at which it expires, if no request comes before: its timeout after its last request (5.6.2.2)
abbrev pub moment : Session → ℕ
moment session = session.last + session.timeout

-- whether its moment is still to come
abbrev pub lasts_past : ℕ → Session → Bool
lasts_past now session = nat_lt now (moment session)

-- one Publish more; the oldest goes where the most were queued
abbrev pub with_publish : Parked → List Parked → List Parked
with_publish parked queued =
    if nat_lt (length queued) 16 then queued ++ parked ∷ []
    else drop 1 queued ++ parked ∷ []

-- what one Publish more drives out
abbrev pub driven_out : List Parked → Option Parked
driven_out queued = if nat_lt (length queued) 16 then None else slice_get queued 0

abbrev pub with_parked : Parked → Session → Session
with_parked parked session = record session { queued = with_publish parked session.queued }

-- without the oldest queued Publish
abbrev pub without_oldest : Session → Session
without_oldest session = record session { queued = drop 1 session.queued }

-- whether a Publish is queued
abbrev pub waits : Session → Bool
waits session = not (length session.queued == 0)
