-- A node over whole messages: what stands behind all its connections, and their ends.
use Rattle.std.specs.Prelude.{ℕ, List, [], ◌∷◌, Option, Some, None, if◌then◌else◌}
use Rattle.ua_channel.specs.declared.ear.Ear.{Ear}
use Rattle.ua_channel.specs.declared.heard.Heard.{Heard}
use Rattle.ua_channel.specs.declared.wire.Order.{Order}
use Rattle.ua_channel.specs.State.{WireState, is_deaf}
use Rattle.ua_channel.specs.Messages.{Judged, hearing_of, no_tokens}
use Rattle.message_ends.specs.Ends.{MessageEnd, MessageEnds, emptied, obeyed_each, out_by, set_end}

pub record Talk (H : Type 0) : Type 0 where
  pub hub : H
  pub ends : MessageEnds

module _ {H : Type 0} where
  -- the messages for a connection that weren't taken; of one that isn't there none
  abbrev pub out_of : ℕ → Talk H → List WireState
  out_of conn t = out_by (t.ends conn)

  -- they are taken
  abbrev pub without_out : ℕ → Talk H → Talk H
  without_out conn t = record t { ends = emptied conn t.ends }

-- a hub by which messages it takes next on each connection, and by what it makes of what is heard there: itself then, and
-- its orders
module _ {H : Type 0} (ears : ℕ → H → Ear) (answers : ℕ → Heard → H → H × List (ℕ × Order)) where
  -- nothing is taken any more at an end that is deaf
  abbrev pub settled_by : Option MessageEnd → Option MessageEnd
  settled_by None = None
  settled_by (Some e) = Some (record e { tokens = no_tokens })

  abbrev pub settled : ℕ → Talk H → Talk H
  settled conn t = if is_deaf (ears conn t.hub) then record t { ends = set_end conn (settled_by (t.ends conn)) t.ends } else t

  -- the hub hears, and the ends obey
  abbrev pub told : ℕ → Heard → Talk H → Talk H
  told conn h t = record { hub = (answers conn h t.hub).0; ends = obeyed_each (answers conn h t.hub).1 t.ends }

  abbrev pub judged : ℕ → Judged → MessageEnd → Talk H → Talk H
  judged conn j e t =
      settled conn (told conn j.heard (record t { ends = set_end conn (Some (record e { tokens = j.tokens })) t.ends }))

  -- a message that comes to a deaf end is for nobody, and so is one for a connection that isn't there
  abbrev pub heard_by : Option MessageEnd → ℕ → WireState → Talk H → Talk H
  heard_by None conn w t = t
  heard_by (Some e) conn w t =
      if is_deaf (ears conn t.hub) then t else judged conn (hearing_of (ears conn t.hub) w e.tokens) e t

  -- a message comes on a connection
  unfoldable pub heard_one : ℕ → WireState → Talk H → Talk H
  heard_one conn w t = heard_by (t.ends conn) conn w t

  -- one after another
  abbrev pub heard_all : ℕ → List WireState → Talk H → Talk H
  heard_all conn [] t = t
  heard_all conn (w ∷ wires) t = heard_all conn wires (heard_one conn w t)
