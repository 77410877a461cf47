-- What each answer of a core keeps true, bytes keep true.
use Rattle.std.proofs.Common.{ℕ, Bool, true, false, cond, List, [], ◌∷◌, Option, Some, None}
use Rattle.ua_chunks.specs.declared.frame.Frame.{Frame}
use Rattle.ua_chunks.specs.Frames.{fault_of}
use Rattle.ua_chunks.specs.Framing.{after_feed, frames_of}
use Rattle.ua_channel.specs.declared.ear.Ear.{Ear}
use Rattle.ua_channel.specs.declared.heard.Heard.{Heard}
use Rattle.ua_channel.specs.declared.heard.Heard.TheVariants as said
use Rattle.ua_channel.specs.declared.wire.Order.{Order}
use Rattle.ua_channel.specs.State.{shut}
use Rattle.ua_channel.specs.Hearing.{Hearing, hearing, with_assembly}
use Rattle.ua_channel.specs.Node.{NodeState, after_hearing, answered, deaf, framed_node, node_after, stepped, told, told_if, with_fault, with_frame, with_frames}

module _ {C : Type 0} (ears : C → Ear) (answer : Heard → C → C × List Order) (P : C → Type 0)
    (kept : (h : Heard) (core : C) → P core → P (answer h core).0) where
  settled_holds : (b : Bool) (n : NodeState C) → P n.core → P (cond b (record n { channel = shut n.channel }) n).core
  settled_holds true n p = p
  settled_holds false n p = p

  told_holds : (h : Heard) (n : NodeState C) → P n.core → P (told ears answer h n).core
  unfolding told
  told_holds h n p = settled_holds (deaf ears answer (answered ears answer h n)) (answered ears answer h n) (kept h n.core p)

  told_if_holds : (h : Option Heard) (n : NodeState C) → P n.core → P (told_if ears answer h n).core
  told_if_holds None n p = p
  told_if_holds (Some h) n p = told_holds h n p

  frame_by : (b : Bool) (h : Hearing) (n : NodeState C) → P n.core → P (cond b n (after_hearing ears answer h n)).core
  frame_by true h n p = p
  frame_by false h n p = told_if_holds h.heard (record n { channel = with_assembly h.assembly n.channel }) p

  frame_holds : (f : Frame) (n : NodeState C) → P n.core → P (with_frame ears answer f n).core
  unfolding with_frame
  frame_holds f n p = frame_by (deaf ears answer n) (hearing n.channel.side (ears n.core) f n.channel.assembly) n p

  frames_hold : (frames : List Frame) (n : NodeState C) → P n.core → P (with_frames ears answer frames n).core
  frames_hold [] n p = p
  frames_hold (f ∷ frames) n p = frames_hold frames (with_frame ears answer f n) (frame_holds f n p)

  fault_by : (b : Bool) (code : ℕ) (n : NodeState C) → P n.core → P (cond b n (told ears answer (said.Fault code) n)).core
  fault_by true code n p = p
  fault_by false code n p = told_holds (said.Fault code) n p

  fault_holds : (fault : Option ℕ) (n : NodeState C) → P n.core → P (with_fault ears answer fault n).core
  fault_holds None n p = p
  fault_holds (Some code) n p = fault_by (deaf ears answer n) code n p

  stepped_holds : (bytes : List ℕ) (n : NodeState C) → P n.core → P (stepped ears answer bytes n).core
  unfolding stepped
  stepped_holds bytes n p =
      fault_holds (fault_of (after_feed bytes n.channel.framing).held)
      (with_frames ears answer (frames_of bytes n.channel.framing) (framed_node ears answer bytes n))
      (frames_hold (frames_of bytes n.channel.framing) (framed_node ears answer bytes n) p)

  some_hold : (b : Bool) (bytes : List ℕ) (n : NodeState C) → P n.core → P (cond b n (stepped ears answer bytes n)).core
  some_hold true bytes n p = p
  some_hold false bytes n p = stepped_holds bytes n p

  pub bytes_hold : (bytes : List ℕ) (n : NodeState C) → P n.core → P (node_after ears answer bytes n).core
  unfolding node_after
  bytes_hold [] n p = p
  bytes_hold (b ∷ bytes) n p = some_hold (deaf ears answer n) (b ∷ bytes) n p
