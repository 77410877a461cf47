-- An end and its core: bytes to frames, frames to what is heard, what is heard to orders, and these obeyed. Said once
-- for any core.
use Rattle.std.specs.Prelude.{◌≡◌, ℕ, Bool, true, List, [], ◌∷◌, Option, Some, None, if◌then◌else◌}
use Rattle.ua_chunks.specs.declared.frame.Frame.{Frame}
use Rattle.ua_chunks.specs.Frames.{fault_of}
use Rattle.ua_chunks.specs.Framing.{after_feed, frames_of}
use Rattle.ua_channel.specs.declared.ear.Ear.{Ear}
use Rattle.ua_channel.specs.declared.heard.Heard.{Heard}
use Rattle.ua_channel.specs.declared.heard.Heard.TheVariants as said
use Rattle.ua_channel.specs.declared.wire.Order.{Order}
use Rattle.ua_channel.specs.State.{ChannelState, is_deaf, shut}
use Rattle.ua_channel.specs.Hearing.{Hearing, fed_on, hearing, with_assembly}
use Rattle.ua_channel.specs.Orders.{obeyed_all}

-- an end, and what answers behind it
pub record NodeState (C : Type 0) : Type 0 where
  pub core : C
  pub channel : ChannelState

abbrev pub node_of : {C : Type 0} → C → ChannelState → NodeState C
node_of core channel = record { core = core; channel = channel }

-- a core by which frames it takes next, and by what it makes of what is heard: itself then, and its orders
module _ {C : Type 0} (ears : C → Ear) (answer : Heard → C → C × List Order) where
  abbrev pub deaf : NodeState C → Bool
  deaf n = is_deaf (ears n.core)

  -- a deaf end keeps nothing
  abbrev pub settled : NodeState C → NodeState C
  settled n = if deaf n then record n { channel = shut n.channel } else n

  -- the core answers, and its orders are obeyed
  abbrev pub answered : Heard → NodeState C → NodeState C
  answered h n = record {
    core = (answer h n.core).0;
    channel = obeyed_all (answer h n.core).1 n.channel;
  }

  unfoldable pub told : Heard → NodeState C → NodeState C
  told h n = settled (answered h n)

  abbrev pub told_if : Option Heard → NodeState C → NodeState C
  told_if None n = n
  told_if (Some h) n = told h n

  abbrev pub after_hearing : Hearing → NodeState C → NodeState C
  after_hearing h n = told_if h.heard (record n { channel = with_assembly h.assembly n.channel })

  -- a frame is heard with what the frames before it left: a renewal comes before the next frame
  unfoldable pub with_frame : Frame → NodeState C → NodeState C
  with_frame f n = if deaf n then n else after_hearing (hearing n.channel.side (ears n.core) f n.channel.assembly) n

  abbrev pub with_frames : List Frame → NodeState C → NodeState C
  with_frames [] n = n
  with_frames (f ∷ frames) n = with_frames frames (with_frame f n)

  -- a fault of the framing comes behind all frames
  abbrev pub with_fault : Option ℕ → NodeState C → NodeState C
  with_fault None n = n
  with_fault (Some code) n = if deaf n then n else told (said.Fault code) n

  abbrev pub framed_node : List ℕ → NodeState C → NodeState C
  framed_node bytes n = record n { channel = fed_on bytes n.channel }

  unfoldable pub stepped : List ℕ → NodeState C → NodeState C
  stepped bytes n =
      with_fault (fault_of (after_feed bytes n.channel.framing).held)
      (with_frames (frames_of bytes n.channel.framing) (framed_node bytes n))

  -- no bytes are no event, and a deaf end hears nothing
  unfoldable pub node_after : List ℕ → NodeState C → NodeState C
  node_after [] n = n
  node_after (b ∷ bytes) n = if deaf n then n else stepped (b ∷ bytes) n

  -- a fault is the last thing that is heard
  abbrev pub Deafens : Type 0
  Deafens = (code : ℕ) (core : C) → is_deaf (ears (answer (said.Fault code) core).0) ≡ true
