-- What bytes make of two cores that are alike in all that counts.
use Rattle.std.proofs.Common.{◌≡◌, ℕ, Bool, true, false, cond, List, [], ◌∷◌, Option, Some, None, ap, ap₂, subst}
use Rattle.ua_chunks.specs.declared.frame.Frame.{Frame}
use Rattle.ua_chunks.specs.Frames.{fault_of}
use Rattle.ua_chunks.specs.Framing.{after_feed, frames_of}
use Rattle.ua_channel.specs.declared.ear.Ear.{Ear}
use Rattle.ua_channel.specs.declared.heard.Heard.{Heard}
use Rattle.ua_channel.specs.declared.heard.Heard.TheVariants as said
use Rattle.ua_channel.specs.declared.wire.Order.{Order}
use Rattle.ua_channel.specs.State.{ChannelState, is_deaf, shut}
use Rattle.ua_channel.specs.Hearing.{Hearing, fed_on, hearing, with_assembly}
use Rattle.ua_channel.specs.Orders.{obeyed_all}
use Rattle.ua_channel.specs.Node.{NodeState, after_hearing, answered, deaf, framed_node, node_after, stepped, told, told_if, with_fault, with_frame, with_frames}

-- ends that are the same, with cores that are alike
pub record Alike {C Q : Type 0} (part : C → Q) (n k : NodeState C) : Type 0 where
  pub core : part n.core ≡ part k.core
  pub channel : n.channel ≡ k.channel

module _ {C Q : Type 0} (ears : C → Ear) (answer : Heard → C → C × List Order) (part : C → Q)
    (same_ears : (c d : C) → part c ≡ part d → ears c ≡ ears d)
    (same_orders : (h : Heard) (c d : C) → part c ≡ part d → (answer h c).1 ≡ (answer h d).1)
    (same_part : (h : Heard) (c d : C) → part c ≡ part d → part (answer h c).0 ≡ part (answer h d).0) where
  cond_alike : (b : Bool) (n m k j : NodeState C) → Alike part n k → Alike part m j → Alike part (cond b n m) (cond b k j)
  cond_alike true n m k j one other = one
  cond_alike false n m k j one other = other

  deaf_alike : (n m k j : NodeState C) (x y : NodeState C) → Alike part x y → Alike part n k → Alike part m j
      → Alike part (cond (deaf ears answer x) n m) (cond (deaf ears answer y) k j)
  deaf_alike n m k j x y alike one other =
      subst (λ b. Alike part (cond (deaf ears answer x) n m) (cond b k j))
      (ap is_deaf (same_ears x.core y.core alike.core)) (cond_alike (deaf ears answer x) n m k j one other)

  answered_alike : (h : Heard) (n k : NodeState C) → Alike part n k → Alike part (answered ears answer h n) (answered ears answer h k)
  answered_alike h n k alike = record {
    core = same_part h n.core k.core alike.core;
    channel = ap₂ obeyed_all (same_orders h n.core k.core alike.core) alike.channel;
  }

  told_alike : (h : Heard) (n k : NodeState C) → Alike part n k → Alike part (told ears answer h n) (told ears answer h k)
  unfolding told
  told_alike h n k alike =
      let next = answered_alike h n k alike in
      deaf_alike (record (answered ears answer h n) { channel = shut (answered ears answer h n).channel }) (answered ears answer h n)
      (record (answered ears answer h k) { channel = shut (answered ears answer h k).channel }) (answered ears answer h k)
      (answered ears answer h n) (answered ears answer h k) next
      (record { core = next.core; channel = ap shut next.channel }) next

  if_alike : (o : Option Heard) (n k : NodeState C) → Alike part n k → Alike part (told_if ears answer o n) (told_if ears answer o k)
  if_alike None n k alike = alike
  if_alike (Some h) n k alike = told_alike h n k alike

  hearing_alike : (h : Hearing) (n k : NodeState C) → Alike part n k → Alike part (after_hearing ears answer h n) (after_hearing ears answer h k)
  hearing_alike h n k alike =
      if_alike h.heard (record n { channel = with_assembly h.assembly n.channel }) (record k { channel = with_assembly h.assembly k.channel })
      (record { core = alike.core; channel = ap (with_assembly h.assembly) alike.channel })

  frame_alike : (f : Frame) (n k : NodeState C) → Alike part n k → Alike part (with_frame ears answer f n) (with_frame ears answer f k)
  unfolding with_frame
  frame_alike f n k alike =
      let one : Hearing = hearing n.channel.side (ears n.core) f n.channel.assembly in
      let other : Hearing = hearing k.channel.side (ears k.core) f k.channel.assembly in
      let same : one ≡ other =
      ap₂ (λ (e : Ear) (c : ChannelState). hearing c.side e f c.assembly) (same_ears n.core k.core alike.core) alike.channel in
      deaf_alike n (after_hearing ears answer one n) k (after_hearing ears answer other k) n k alike alike
      (subst (λ (h : Hearing). Alike part (after_hearing ears answer one n) (after_hearing ears answer h k)) same (hearing_alike one n k alike))

  frames_alike : (frames : List Frame) (n k : NodeState C) → Alike part n k
      → Alike part (with_frames ears answer frames n) (with_frames ears answer frames k)
  frames_alike [] n k alike = alike
  frames_alike (f ∷ frames) n k alike =
      frames_alike frames (with_frame ears answer f n) (with_frame ears answer f k) (frame_alike f n k alike)

  fault_alike : (o : Option ℕ) (n k : NodeState C) → Alike part n k → Alike part (with_fault ears answer o n) (with_fault ears answer o k)
  fault_alike None n k alike = alike
  fault_alike (Some code) n k alike =
      deaf_alike n (told ears answer (said.Fault code) n) k (told ears answer (said.Fault code) k) n k alike alike
      (told_alike (said.Fault code) n k alike)

  stepped_alike : (bytes : List ℕ) (n k : NodeState C) → Alike part n k → Alike part (stepped ears answer bytes n) (stepped ears answer bytes k)
  unfolding stepped
  stepped_alike bytes n k alike =
      let begun : Alike part (framed_node ears answer bytes n) (framed_node ears answer bytes k) =
      record { core = alike.core; channel = ap (fed_on bytes) alike.channel } in
      let heard = frames_alike (frames_of bytes n.channel.framing) (framed_node ears answer bytes n) (framed_node ears answer bytes k) begun in
      let ended = fault_alike (fault_of (after_feed bytes n.channel.framing).held)
      (with_frames ears answer (frames_of bytes n.channel.framing) (framed_node ears answer bytes n))
      (with_frames ears answer (frames_of bytes n.channel.framing) (framed_node ears answer bytes k)) heard in
      subst (λ (c : ChannelState). Alike part
      (with_fault ears answer (fault_of (after_feed bytes n.channel.framing).held)
      (with_frames ears answer (frames_of bytes n.channel.framing) (framed_node ears answer bytes n)))
      (with_fault ears answer (fault_of (after_feed bytes c.framing).held)
      (with_frames ears answer (frames_of bytes c.framing) (framed_node ears answer bytes k)))) alike.channel ended

  pub bytes_alike : (bytes : List ℕ) (n k : NodeState C) → Alike part n k
      → Alike part (node_after ears answer bytes n) (node_after ears answer bytes k)
  unfolding node_after
  bytes_alike [] n k alike = alike
  bytes_alike (b ∷ bytes) n k alike =
      deaf_alike n (stepped ears answer (b ∷ bytes) n) k (stepped ears answer (b ∷ bytes) k) n k alike alike
      (stepped_alike (b ∷ bytes) n k alike)
