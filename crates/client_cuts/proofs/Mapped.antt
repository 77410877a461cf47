-- What waits to be taken has no part in what bytes make of an end and its core.
use Rattle.std.proofs.Common.{◌≡◌, ℕ, ◌++◌, Bool, true, false, cond, List, [], ◌∷◌, Option, Some, None, refl, ap, ap₂, ◌∙◌}
use Rattle.std.proofs.lemmas.List.{append_assoc}
use Rattle.ua_chunks.specs.declared.frame.Frame.{Frame}
use Rattle.ua_chunks.specs.Frames.{fault_of}
use Rattle.ua_chunks.specs.Framing.{after_feed, frames_of}
use Rattle.ua_channel.specs.declared.ear.Ear.{Ear}
use Rattle.ua_channel.specs.declared.heard.Heard.{Heard}
use Rattle.ua_channel.specs.declared.heard.Heard.TheVariants as said
use Rattle.ua_channel.specs.declared.wire.Order.{Order}
use Rattle.ua_channel.specs.declared.wire.Order.TheVariants as order
use Rattle.ua_channel.specs.State.{ChannelState, is_deaf, shut}
use Rattle.ua_channel.specs.Hearing.{Hearing, hearing, with_assembly}
use Rattle.ua_channel.specs.Orders.{done, fits_in, obeyed, obeyed_all, put_on, undone, wire_bytes, renewed_for}
use Rattle.ua_channel.specs.Node.{NodeState, after_hearing, answered, deaf, framed_node, node_after, node_of, settled, stepped, told, told_if, with_fault, with_frame, with_frames}

-- bytes that wait before the others
abbrev pub waiting : List ℕ → ChannelState → ChannelState
waiting p c = record c { out = p ++ c.out }

done_waiting : (p : List ℕ) (o : Order) (c : ChannelState) → done o (waiting p c) ≡ waiting p (done o c)
unfolding put_on
done_waiting p (order.Put w) c =
    ap (λ (out : List ℕ). record (done (order.Put w) c) { out = out }) (append_assoc p c.out (wire_bytes w (renewed_for w c.sending)))
done_waiting p (order.Limit l) c = refl
done_waiting p (order.Renew channel token) c = refl

undone_waiting : (p : List ℕ) (o : Order) (c : ChannelState) → undone o (waiting p c) ≡ waiting p (undone o c)
undone_waiting p (order.Put w) c = refl
undone_waiting p (order.Limit l) c = refl
undone_waiting p (order.Renew channel token) c = refl

obeyed_by : (b : Bool) (p : List ℕ) (o : Order) (c : ChannelState)
    → cond b (done o (waiting p c)) (undone o (waiting p c)) ≡ waiting p (cond b (done o c) (undone o c))
obeyed_by true p o c = done_waiting p o c
obeyed_by false p o c = undone_waiting p o c

pub obeyed_waiting : (p : List ℕ) (o : Order) (c : ChannelState) → obeyed o (waiting p c) ≡ waiting p (obeyed o c)
obeyed_waiting p o c = obeyed_by (fits_in o c.sending) p o c

all_waiting : (p : List ℕ) (os : List Order) (c : ChannelState) → obeyed_all os (waiting p c) ≡ waiting p (obeyed_all os c)
all_waiting p [] c = refl
all_waiting p (o ∷ os) c = ap (obeyed_all os) (obeyed_waiting p o c) ∙ all_waiting p os (obeyed o c)

module _ {C : Type 0} (ears : C → Ear) (answer : Heard → C → C × List Order) (other : C → C) (p : List ℕ)
    (same_ears : (c : C) → ears (other c) ≡ ears c)
    (same_orders : (h : Heard) (c : C) → (answer h (other c)).1 ≡ (answer h c).1)
    (same_core : (h : Heard) (c : C) → (answer h (other c)).0 ≡ other (answer h c).0) where
  abbrev pub image : NodeState C → NodeState C
  image n = node_of (other n.core) (waiting p n.channel)

  cond_image : (b : Bool) (n m : NodeState C) → cond b (image n) (image m) ≡ image (cond b n m)
  cond_image true n m = refl
  cond_image false n m = refl

  deaf_image : (n k m : NodeState C) (x : NodeState C) → k ≡ image m → cond (deaf ears answer (image n)) (image x) k ≡ image (cond (deaf ears answer n) x m)
  deaf_image n k m x e =
      ap (λ (ear : Ear). cond (is_deaf ear) (image x) k) (same_ears n.core)
      ∙ ap (λ (y : NodeState C). cond (deaf ears answer n) (image x) y) e
      ∙ cond_image (deaf ears answer n) x m

  answered_image : (h : Heard) (n : NodeState C) → answered ears answer h (image n) ≡ image (answered ears answer h n)
  answered_image h n =
      ap₂ (λ (core : C) (c : ChannelState). node_of core c) (same_core h n.core)
      (ap (λ (os : List Order). obeyed_all os (waiting p n.channel)) (same_orders h n.core) ∙ all_waiting p (answer h n.core).1 n.channel)

  settled_image : (n : NodeState C) → settled ears answer (image n) ≡ image (settled ears answer n)
  settled_image n = deaf_image n (image n) n (record n { channel = shut n.channel }) refl

  told_image : (h : Heard) (n : NodeState C) → told ears answer h (image n) ≡ image (told ears answer h n)
  unfolding told
  told_image h n = ap (settled ears answer) (answered_image h n) ∙ settled_image (answered ears answer h n)

  if_image : (o : Option Heard) (n : NodeState C) → told_if ears answer o (image n) ≡ image (told_if ears answer o n)
  if_image None n = refl
  if_image (Some h) n = told_image h n

  hearing_image : (h : Hearing) (n : NodeState C) → after_hearing ears answer h (image n) ≡ image (after_hearing ears answer h n)
  hearing_image h n = if_image h.heard (record n { channel = with_assembly h.assembly n.channel })

  frame_image : (f : Frame) (n : NodeState C) → with_frame ears answer f (image n) ≡ image (with_frame ears answer f n)
  unfolding with_frame
  frame_image f n =
      deaf_image n (after_hearing ears answer (hearing n.channel.side (ears (other n.core)) f n.channel.assembly) (image n))
      (after_hearing ears answer (hearing n.channel.side (ears n.core) f n.channel.assembly) n) n
      (ap (λ (e : Ear). after_hearing ears answer (hearing n.channel.side e f n.channel.assembly) (image n)) (same_ears n.core)
      ∙ hearing_image (hearing n.channel.side (ears n.core) f n.channel.assembly) n)

  frames_image : (frames : List Frame) (n : NodeState C) → with_frames ears answer frames (image n) ≡ image (with_frames ears answer frames n)
  frames_image [] n = refl
  frames_image (f ∷ frames) n =
      ap (with_frames ears answer frames) (frame_image f n) ∙ frames_image frames (with_frame ears answer f n)

  fault_image : (o : Option ℕ) (n : NodeState C) → with_fault ears answer o (image n) ≡ image (with_fault ears answer o n)
  fault_image None n = refl
  fault_image (Some code) n =
      deaf_image n (told ears answer (said.Fault code) (image n)) (told ears answer (said.Fault code) n) n (told_image (said.Fault code) n)

  stepped_image : (bytes : List ℕ) (n : NodeState C) → stepped ears answer bytes (image n) ≡ image (stepped ears answer bytes n)
  unfolding stepped
  stepped_image bytes n =
      ap (with_fault ears answer (fault_of (after_feed bytes n.channel.framing).held))
      (frames_image (frames_of bytes n.channel.framing) (framed_node ears answer bytes n))
      ∙ fault_image (fault_of (after_feed bytes n.channel.framing).held)
      (with_frames ears answer (frames_of bytes n.channel.framing) (framed_node ears answer bytes n))

  pub bytes_image : (bytes : List ℕ) (n : NodeState C) → node_after ears answer bytes (image n) ≡ image (node_after ears answer bytes n)
  unfolding node_after
  bytes_image [] n = refl
  bytes_image (b ∷ bytes) n =
      deaf_image n (stepped ears answer (b ∷ bytes) (image n)) (stepped ears answer (b ∷ bytes) n) n (stepped_image (b ∷ bytes) n)
