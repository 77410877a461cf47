-- A link over bytes: the link over whole messages behind the end of its connection, and what it told.
use Rattle.std.specs.Prelude.{ℕ, Bool, true, false, List, [], ◌++◌}
use Rattle.ua_channel.specs.declared.ear.Ear.{Ear}
use Rattle.ua_channel.specs.declared.heard.Heard.{Heard}
use Rattle.ua_channel.specs.declared.wire.Order.{Order}
use Rattle.ua_channel.specs.declared.side.Side.TheVariants as sides
use Rattle.ua_channel.specs.State.{ChannelState, held_in, new_channel}
use Rattle.ua_channel.specs.Node.{NodeState, node_after, node_of, settled}
use Rattle.ua_channel.specs.Orders.{obeyed_all}
use Rattle.link_rules.specs.declared.config.LinkConfig.{LinkConfig}
use Rattle.link_rules.specs.declared.notice.Notice.{Notice}
use Rattle.link_rules.specs.State.{LinkState, new_link}
use Rattle.link_rules.specs.Said.{LinkDid, nothing, orders_of}
use Rattle.link_rules.specs.Opening as opening
use Rattle.link_rules.specs.Step as step
use Rattle.link_rules.specs.Time as time
use Rattle.ua_link.specs.declared.event.LinkEvent.{LinkEvent}
use Rattle.ua_link.specs.declared.event.LinkEvent.TheVariants as event

-- ---- the link and what it told, in order

pub record Telling : Type 0 where
  pub link : LinkState
  pub notices : List Notice

-- it goes on with what a rule did
abbrev pub told : LinkDid → Telling → Telling
told did t = record { link = did.link; notices = t.notices ++ did.notices }

-- which frames it takes next
abbrev pub ears : Telling → Ear
ears t = step.ear_of t.link

-- what it makes of what is heard
abbrev pub answer : Heard → Telling → Telling × List Order
answer h t = (told (step.heard h t.link) t, orders_of (step.heard h t.link).said)

-- ---- behind the end of its connection

abbrev pub TalkState : Type 0
TalkState = NodeState Telling

-- that, and whether memory was refused
pub record Life : Type 0 where
  pub failed : Bool
  pub talk : TalkState

abbrev pub life_of : TalkState → Life
life_of s = record { failed = false; talk = s }

abbrev pub new_talk : LinkConfig → TalkState
new_talk config = node_of (record { link = new_link config; notices = [] }) (new_channel sides.Client)

-- the link alone changes
abbrev pub with_link : LinkState → TalkState → TalkState
with_link l s = record s { core = record s.core { link = l } }

abbrev pub without_notices : TalkState → TalkState
without_notices s = record s { core = record s.core { notices = [] } }

-- the bytes that were put are taken
abbrev pub without_out : TalkState → TalkState
without_out s = record s { channel = record s.channel { out = [] } }

abbrev pub with_talk : TalkState → Life → Life
with_talk s life = record life { talk = s }

-- what a rule did: its orders are obeyed
abbrev pub obeyed_by : LinkDid → TalkState → TalkState
obeyed_by did s = node_of (told did s.core) (obeyed_all (orders_of did.said) s.channel)

-- and an end that is deaf then keeps nothing of what came
abbrev pub after_rule : LinkDid → TalkState → TalkState
after_rule did s = settled ears answer (obeyed_by did s)

-- ---- events

-- where a connection begins anew, nothing is left of the one before
abbrev pub end_for : Bool → ChannelState → ChannelState
end_for true c = new_channel sides.Client
end_for false c = c

abbrev pub anew : TalkState → TalkState
anew s = record s { channel = end_for (opening.begins_anew s.core.link) s.channel }

abbrev pub stepped : LinkEvent → TalkState → TalkState
stepped (event.Opened url) s = after_rule (opening.opened url s.core.link) (anew s)
stepped event.Refused s = after_rule (opening.refused s.core.link) s
stepped event.Closed s = after_rule (opening.closed s.core.link) s
stepped (event.Bytes bytes) s = node_after ears answer bytes s
stepped (event.Tick ms) s = after_rule (time.ticked ms s.core.link) s
stepped (event.Wants mode) s = after_rule (step.wants mode s.core.link) s
stepped event.Dial s = after_rule (nothing (opening.dials s.core.link)) s

-- how many bytes are kept of what came and is no whole message
abbrev pub held_of : TalkState → ℕ
held_of s = held_in (ears s.core) s.channel
