-- What each answer of a core leaves alone, no bytes change.
use Rattle.std.proofs.Common.{◌≡◌, ℕ, Bool, true, false, cond, List, [], ◌∷◌, Option, Some, None, refl, ◌∙◌}
use Rattle.ua_chunks.specs.declared.frame.Frame.{Frame}
use Rattle.ua_chunks.specs.Frames.{fault_of}
use Rattle.ua_chunks.specs.Framing.{after_feed, frames_of}
use Rattle.ua_channel.specs.declared.ear.Ear.{Ear}
use Rattle.ua_channel.specs.declared.heard.Heard.{Heard}
use Rattle.ua_channel.specs.declared.heard.Heard.TheVariants as said
use Rattle.ua_channel.specs.declared.wire.Order.{Order}
use Rattle.ua_channel.specs.State.{shut}
use Rattle.ua_channel.specs.Hearing.{Hearing, hearing, with_assembly}
use Rattle.ua_channel.specs.Node.{NodeState, after_hearing, answered, deaf, framed_node, node_after, stepped, told, told_if, with_fault, with_frame, with_frames}

module _ {C X : Type 0} (ears : C → Ear) (answer : Heard → C → C × List Order) (part : C → X)
    (kept : (h : Heard) (core : C) → part (answer h core).0 ≡ part core) where
  settled_keeps : (b : Bool) (n : NodeState C) → part (cond b (record n { channel = shut n.channel }) n).core ≡ part n.core
  settled_keeps true n = refl
  settled_keeps false n = refl

  told_keeps : (h : Heard) (n : NodeState C) → part (told ears answer h n).core ≡ part n.core
  unfolding told
  told_keeps h n = settled_keeps (deaf ears answer (answered ears answer h n)) (answered ears answer h n) ∙ kept h n.core

  told_if_keeps : (h : Option Heard) (n : NodeState C) → part (told_if ears answer h n).core ≡ part n.core
  told_if_keeps None n = refl
  told_if_keeps (Some h) n = told_keeps h n

  frame_keeps_by : (b : Bool) (h : Hearing) (n : NodeState C) → part (cond b n (after_hearing ears answer h n)).core ≡ part n.core
  frame_keeps_by true h n = refl
  frame_keeps_by false h n = told_if_keeps h.heard (record n { channel = with_assembly h.assembly n.channel })

  frame_keeps : (f : Frame) (n : NodeState C) → part (with_frame ears answer f n).core ≡ part n.core
  unfolding with_frame
  frame_keeps f n = frame_keeps_by (deaf ears answer n) (hearing n.channel.side (ears n.core) f n.channel.assembly) n

  frames_keep : (frames : List Frame) (n : NodeState C) → part (with_frames ears answer frames n).core ≡ part n.core
  frames_keep [] n = refl
  frames_keep (f ∷ frames) n = frames_keep frames (with_frame ears answer f n) ∙ frame_keeps f n

  fault_keeps_by : (b : Bool) (code : ℕ) (n : NodeState C) → part (cond b n (told ears answer (said.Fault code) n)).core ≡ part n.core
  fault_keeps_by true code n = refl
  fault_keeps_by false code n = told_keeps (said.Fault code) n

  fault_keeps : (fault : Option ℕ) (n : NodeState C) → part (with_fault ears answer fault n).core ≡ part n.core
  fault_keeps None n = refl
  fault_keeps (Some code) n = fault_keeps_by (deaf ears answer n) code n

  stepped_keeps : (bytes : List ℕ) (n : NodeState C) → part (stepped ears answer bytes n).core ≡ part n.core
  unfolding stepped
  stepped_keeps bytes n =
      fault_keeps (fault_of (after_feed bytes n.channel.framing).held)
      (with_frames ears answer (frames_of bytes n.channel.framing) (framed_node ears answer bytes n))
      ∙ frames_keep (frames_of bytes n.channel.framing) (framed_node ears answer bytes n)

  some_keep : (b : Bool) (bytes : List ℕ) (n : NodeState C) → part (cond b n (stepped ears answer bytes n)).core ≡ part n.core
  some_keep true bytes n = refl
  some_keep false bytes n = stepped_keeps bytes n

  pub bytes_keep : (bytes : List ℕ) (n : NodeState C) → part (node_after ears answer bytes n).core ≡ part n.core
  unfolding node_after
  bytes_keep [] n = refl
  bytes_keep (b ∷ bytes) n = some_keep (deaf ears answer n) (b ∷ bytes) n
