-- What each answer of a core lets hold, bytes do.
use Rattle.std.proofs.Common.{ℕ, Bool, true, false, cond, List, [], ◌∷◌, Option, Some, None}
use Rattle.ua_chunks.specs.declared.frame.Frame.{Frame}
use Rattle.ua_chunks.specs.Frames.{fault_of}
use Rattle.ua_chunks.specs.Framing.{after_feed, frames_of}
use Rattle.ua_channel.specs.declared.ear.Ear.{Ear}
use Rattle.ua_channel.specs.declared.heard.Heard.{Heard}
use Rattle.ua_channel.specs.declared.heard.Heard.TheVariants as said
use Rattle.ua_channel.specs.declared.wire.Order.{Order}
use Rattle.ua_channel.specs.State.{shut}
use Rattle.ua_channel.specs.Hearing.{Hearing, hearing, with_assembly}
use Rattle.ua_channel.specs.Node.{NodeState, after_hearing, answered, deaf, framed_node, node_after, stepped, told, told_if, with_fault, with_frame, with_frames}

module _ {C : Type 0} (ears : C → Ear) (answer : Heard → C → C × List Order) (Holds : C → Type 0)
    (holds : (h : Heard) (core : C) → Holds core → Holds (answer h core).0) where
  settled_holds : (b : Bool) (n : NodeState C) → Holds n.core → Holds (cond b (record n { channel = shut n.channel }) n).core
  settled_holds true n h = h
  settled_holds false n h = h

  told_holds : (one : Heard) (n : NodeState C) → Holds n.core → Holds (told ears answer one n).core
  unfolding told
  told_holds one n h = settled_holds (deaf ears answer (answered ears answer one n)) (answered ears answer one n) (holds one n.core h)

  told_if_holds : (one : Option Heard) (n : NodeState C) → Holds n.core → Holds (told_if ears answer one n).core
  told_if_holds None n h = h
  told_if_holds (Some one) n h = told_holds one n h

  frame_holds_by : (b : Bool) (one : Hearing) (n : NodeState C) → Holds n.core → Holds (cond b n (after_hearing ears answer one n)).core
  frame_holds_by true one n h = h
  frame_holds_by false one n h = told_if_holds one.heard (record n { channel = with_assembly one.assembly n.channel }) h

  frame_holds : (f : Frame) (n : NodeState C) → Holds n.core → Holds (with_frame ears answer f n).core
  unfolding with_frame
  frame_holds f n h = frame_holds_by (deaf ears answer n) (hearing n.channel.side (ears n.core) f n.channel.assembly) n h

  frames_hold : (frames : List Frame) (n : NodeState C) → Holds n.core → Holds (with_frames ears answer frames n).core
  frames_hold [] n h = h
  frames_hold (f ∷ frames) n h = frames_hold frames (with_frame ears answer f n) (frame_holds f n h)

  fault_holds_by : (b : Bool) (code : ℕ) (n : NodeState C) → Holds n.core → Holds (cond b n (told ears answer (said.Fault code) n)).core
  fault_holds_by true code n h = h
  fault_holds_by false code n h = told_holds (said.Fault code) n h

  fault_holds : (fault : Option ℕ) (n : NodeState C) → Holds n.core → Holds (with_fault ears answer fault n).core
  fault_holds None n h = h
  fault_holds (Some code) n h = fault_holds_by (deaf ears answer n) code n h

  stepped_holds : (bytes : List ℕ) (n : NodeState C) → Holds n.core → Holds (stepped ears answer bytes n).core
  unfolding stepped
  stepped_holds bytes n h =
      fault_holds (fault_of (after_feed bytes n.channel.framing).held)
      (with_frames ears answer (frames_of bytes n.channel.framing) (framed_node ears answer bytes n))
      (frames_hold (frames_of bytes n.channel.framing) (framed_node ears answer bytes n) h)

  some_hold : (b : Bool) (bytes : List ℕ) (n : NodeState C) → Holds n.core → Holds (cond b n (stepped ears answer bytes n)).core
  some_hold true bytes n h = h
  some_hold false bytes n h = stepped_holds bytes n h

  pub bytes_hold : (bytes : List ℕ) (n : NodeState C) → Holds n.core → Holds (node_after ears answer bytes n).core
  unfolding node_after
  bytes_hold [] n h = h
  bytes_hold (b ∷ bytes) n h = some_hold (deaf ears answer n) (b ∷ bytes) n h
