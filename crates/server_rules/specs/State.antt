-- What a server is between two events: plain data, over whole messages (OPC 10000-4, 5.6 and 5.13).
use Rattle.std.specs.Prelude.{ℕ, ℤ, ◌+ℤ◌, ◌*◌, ◌^◌, ◌==◌, ◌-◌, pos, List, [], Bool, Option, Some, None, find, map, filter, not, is_some, length, nat_lt, if◌then◌else◌}
use Rattle.std.specs.Int.{int_min}
use Rattle.set_model.specs.declared.source.Change.{Change}
use Rattle.sessions.specs.State.{SessionsState}
use Rattle.sessions.specs.Table.{no_sessions}
use Rattle.subscription.specs.State.{SubState}
use Rattle.server_rules.specs.declared.config.ServerConfig.{ServerConfig}
use Rattle.server_rules.specs.declared.conn.Conn.{Conn}

-- what a session is still to be told of a subscription that left it (OPC 10000-4, 5.13.7.1 and 7.20.4): the code, and the
-- number of its next data message and those of the messages that were kept, both at that moment
pub record NoticeState : Type 0 where
  pub session : ℕ
  pub subscription : ℕ
  pub code : ℕ
  pub next : ℕ
  pub available : List ℕ

-- a life of a server
pub record ServerState : Type 0 where
  pub config : ServerConfig
  -- in milliseconds
  pub age : ℕ
  -- the ServiceLevel (OPC 10000-4, 6.6.2.4.2)
  pub level : ℕ
  -- each item's newest change
  pub current : List Change
  pub sessions : SessionsState
  -- oldest first
  pub notices : List NoticeState
  -- in order of their ids
  pub subs : List SubState
  -- how many ids of subscriptions, and of secure channels, were given
  pub made : ℕ
  pub channels_given : ℕ
  -- the highest number of a connection that was opened
  pub highest : Option ℕ
  -- in order of their numbers
  pub conns : List Conn

-- a life that begins (level and age are the subject's own choice)
abbrev pub new_server : ServerConfig → List Change → ServerState
new_server config current = record {
  config = config;
  age = 0;
  level = 255;
  current = current;
  sessions = no_sessions config.boot;
  notices = [];
  subs = [];
  made = 0;
  channels_given = 0;
  highest = None;
  conns = [];
}

-- ---- time

-- a DateTime counts steps of 100 ns (OPC 10000-6, 5.2.2.5); the last one stays
abbrev pub time_at : ℤ → ℕ → ℤ
time_at start age = int_min (start +ℤ pos (age * 10000)) (pos (2 ^ 63 - 1))

abbrev pub server_time : ServerState → ℤ
server_time s = time_at s.config.start s.age

-- ---- connections

abbrev pub is_conn : ℕ → Conn → Bool
is_conn number conn = conn.number == number

abbrev pub conn_at : ℕ → List Conn → Option Conn
conn_at number conns = find (is_conn number) conns

abbrev pub renewed_conn : Conn → Conn → Conn
renewed_conn conn other = if is_conn conn.number other then conn else other

-- a connection in the place of the one of its number
abbrev pub with_conn : Conn → ServerState → ServerState
with_conn conn s = record s { conns = map (renewed_conn conn) s.conns }

-- ---- subscriptions

abbrev pub is_sub : ℕ → SubState → Bool
is_sub id sub = sub.spec.id == id

abbrev pub sub_at : ℕ → List SubState → Option SubState
sub_at id subs = find (is_sub id) subs

abbrev pub changed_if : ℕ → (SubState → SubState) → SubState → SubState
changed_if id change sub = if is_sub id sub then change sub else sub

-- the subscription of this id changes
abbrev pub with_sub : ℕ → (SubState → SubState) → ServerState → ServerState
with_sub id change s = record s { subs = map (changed_if id change) s.subs }

abbrev pub without_sub : ℕ → List SubState → List SubState
without_sub id subs = filter (λ sub. not (is_sub id sub)) subs
