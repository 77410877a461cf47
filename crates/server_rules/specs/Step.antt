-- Everything that happens to a server, and what it does then.
use Rattle.std.specs.Prelude.{ℕ, Option, Some, None, if◌then◌else◌}
use Rattle.set_model.specs.declared.source.Change.{Change}
use Rattle.ua_channel.specs.declared.ear.Ear.{Ear}
use Rattle.ua_channel.specs.declared.ear.Ear.TheVariants as ear
use Rattle.ua_channel.specs.declared.heard.Heard.{Heard}
use Rattle.ua_channel.specs.State.{is_deaf}
use Rattle.server_rules.specs.declared.conn.Conn.{Conn}
use Rattle.server_rules.specs.State.{ServerState, conn_at}
use Rattle.server_rules.specs.Said.{Did, nothing}
use Rattle.server_rules.specs.Connecting.{closed, hears, opened}
use Rattle.server_rules.specs.Moves.{fed_with}
use Rattle.server_rules.specs.Timer.{ticked}

-- a connection is opened, heard or closed; an item's value changes; so many milliseconds go by; the ServiceLevel is set
pub data Happening : Type 0 where
  Opens : ℕ → Happening
  Hears : ℕ → Heard → Happening
  Closes : ℕ → Happening
  Feeds : Change → Happening
  Ticks : ℕ → Happening
  Levels : ℕ → Happening

-- ---- what is taken next

abbrev pub ear_of : Option Conn → Ear
ear_of None = ear.Deaf
ear_of (Some conn) = conn.ear

-- of a connection that isn't there nothing is
abbrev pub ears : ℕ → ServerState → Ear
ears number s = ear_of (conn_at number s.conns)

-- a deaf connection hears nothing
unfoldable pub heard : ℕ → Heard → ServerState → Did
heard number h s = if is_deaf (ears number s) then nothing s else hears number h s

-- ---- the rest

-- each item that monitors the node takes the change
unfoldable pub fed : Change → ServerState → Did
fed change s = nothing (fed_with change s)

unfoldable pub leveled : ℕ → ServerState → Did
leveled level s = nothing (record s { level = level })

abbrev pub after : Happening → ServerState → Did
after (Opens number) s = opened number s
after (Hears number h) s = heard number h s
after (Closes number) s = closed number s
after (Feeds change) s = fed change s
after (Ticks ms) s = ticked ms s
after (Levels level) s = leveled level s
