-- Bytes in two pieces are one, for any core that a fault makes deaf.
use Rattle.std.proofs.Common.{◌≡◌, ℕ, Bool, true, false, cond, List, [], ◌∷◌, ◌++◌, Option, Some, None, refl, sym, ap, ◌∙◌}
use Rattle.std.proofs.lemmas.List.{append-nil}
use Rattle.ua_chunks.specs.declared.frame.Frame.{Frame}
use Rattle.ua_chunks.specs.Frames.{fault_of}
use Rattle.ua_chunks.specs.Framing.{Framing, after_feed, frames_of, new_framing}
use Rattle.ua_chunks.proofs.Pieces.{cut_frames, cut_state}
use Rattle.ua_chunks.proofs.Streaming.{stays}
use Rattle.ua_channel.specs.declared.ear.Ear.{Ear}
use Rattle.ua_channel.specs.declared.heard.Heard.{Heard}
use Rattle.ua_channel.specs.declared.heard.Heard.TheVariants as said
use Rattle.ua_channel.specs.declared.wire.Order.{Order}
use Rattle.ua_channel.specs.declared.wire.Order.TheVariants as order
use Rattle.ua_channel.specs.State.{ChannelState, kept, kept_by, shut}
use Rattle.ua_channel.specs.Hearing.{hearing, with_assembly}
use Rattle.ua_channel.specs.Orders.{done, fits_in, obeyed, obeyed_all, put_on, undone}
use Rattle.ua_channel.specs.Node.{Deafens, NodeState, after_hearing, answered, deaf, framed_node, node_after, settled, stepped, told, told_if, with_fault, with_frame, with_frames}

-- ---- another framing

pub with_framing : Framing → ChannelState → ChannelState
with_framing f c = record c { framing = f }

done_reframed : (o : Order) (f : Framing) (c : ChannelState) → done o (record c { framing = f }) ≡ record (done o c) { framing = f }
unfolding put_on
done_reframed (order.Put w) f c = refl
done_reframed (order.Limit l) f c = refl
done_reframed (order.Renew channel token) f c = refl

undone_reframed : (o : Order) (f : Framing) (c : ChannelState) → undone o (record c { framing = f }) ≡ record (undone o c) { framing = f }
undone_reframed (order.Put w) f c = refl
undone_reframed (order.Limit l) f c = refl
undone_reframed (order.Renew channel token) f c = refl

obeyed_by : (b : Bool) (o : Order) (f : Framing) (c : ChannelState)
    → cond b (done o (record c { framing = f })) (undone o (record c { framing = f })) ≡ record (cond b (done o c) (undone o c)) { framing = f }
obeyed_by true o f c = done_reframed o f c
obeyed_by false o f c = undone_reframed o f c

obeyed_reframed : (o : Order) (f : Framing) (c : ChannelState) → obeyed o (record c { framing = f }) ≡ record (obeyed o c) { framing = f }
obeyed_reframed o f c = obeyed_by (fits_in o c.sending) o f c

pub all_reframed : (os : List Order) (f : Framing) (c : ChannelState) → obeyed_all os (record c { framing = f }) ≡ record (obeyed_all os c) { framing = f }
all_reframed [] f c = refl
all_reframed (o ∷ os) f c = ap (obeyed_all os) (obeyed_reframed o f c) ∙ all_reframed os f (obeyed o c)

module _ {C : Type 0} (ears : C → Ear) (answer : Heard → C → C × List Order) where
  abbrev pub reframe : Framing → NodeState C → NodeState C
  reframe f n = record n { channel = record n.channel { framing = f } }

  -- a deaf end has none
  abbrev pub reframed : Framing → NodeState C → NodeState C
  reframed f n = cond (deaf ears answer n) n (reframe f n)

  pub reframed_deaf : (f : Framing) (n : NodeState C) → deaf ears answer n ≡ true → reframed f n ≡ n
  reframed_deaf f n e = ap (λ b. cond b n (reframe f n)) e

  pub reframed_open : (f : Framing) (n : NodeState C) → deaf ears answer n ≡ false → reframed f n ≡ reframe f n
  reframed_open f n e = ap (λ b. cond b n (reframe f n)) e

  abbrev pub shut_node : NodeState C → NodeState C
  shut_node n = record n { channel = shut n.channel }

  pub settled_shut : (n : NodeState C) → deaf ears answer n ≡ true → settled ears answer n ≡ shut_node n
  settled_shut n e = ap (λ b. cond b (shut_node n) n) e

  pub settled_open : (n : NodeState C) → deaf ears answer n ≡ false → settled ears answer n ≡ n
  settled_open n e = ap (λ b. cond b (shut_node n) n) e

  settled_by : (b : Bool) (f : Framing) (n : NodeState C) → deaf ears answer n ≡ b
      → settled ears answer (reframe f n) ≡ reframed f (settled ears answer n)
  settled_by true f n e =
      settled_shut (reframe f n) e ∙ sym (reframed_deaf f (shut_node n) e) ∙ ap (reframed f) (sym (settled_shut n e))
  settled_by false f n e =
      settled_open (reframe f n) e ∙ sym (reframed_open f n e) ∙ ap (reframed f) (sym (settled_open n e))

  pub told_reframed : (h : Heard) (f : Framing) (n : NodeState C) → told ears answer h (reframe f n) ≡ reframed f (told ears answer h n)
  unfolding told
  told_reframed h f n =
      let a = answer h n.core in
      ap (λ (c : ChannelState). settled ears answer (record { core = a.0; channel = c })) (all_reframed a.1 f n.channel)
      ∙ settled_by (deaf ears answer (answered ears answer h n)) f (answered ears answer h n) refl

  heard_by : (o : Option Heard) (f : Framing) (n : NodeState C) → deaf ears answer n ≡ false
      → told_if ears answer o (reframe f n) ≡ reframed f (told_if ears answer o n)
  heard_by None f n e = sym (reframed_open f n e)
  heard_by (Some h) f n e = told_reframed h f n

  pub deaf_frame : (x : Frame) (n : NodeState C) → deaf ears answer n ≡ true → with_frame ears answer x n ≡ n
  unfolding with_frame
  deaf_frame x n e = ap (λ b. cond b n (after_hearing ears answer (hearing n.channel.side (ears n.core) x n.channel.assembly) n)) e

  pub open_frame : (x : Frame) (n : NodeState C) → deaf ears answer n ≡ false
      → with_frame ears answer x n ≡ after_hearing ears answer (hearing n.channel.side (ears n.core) x n.channel.assembly) n
  unfolding with_frame
  open_frame x n e = ap (λ b. cond b n (after_hearing ears answer (hearing n.channel.side (ears n.core) x n.channel.assembly) n)) e

  frame_by : (b : Bool) (x : Frame) (f : Framing) (n : NodeState C) → deaf ears answer n ≡ b
      → with_frame ears answer x (reframed f n) ≡ reframed f (with_frame ears answer x n)
  frame_by true x f n e =
      ap (with_frame ears answer x) (reframed_deaf f n e)
      ∙ deaf_frame x n e
      ∙ sym (reframed_deaf f n e)
      ∙ ap (reframed f) (sym (deaf_frame x n e))
  frame_by false x f n e =
      let h = hearing n.channel.side (ears n.core) x n.channel.assembly in
      ap (with_frame ears answer x) (reframed_open f n e)
      ∙ open_frame x (reframe f n) e
      ∙ heard_by h.heard f (record n { channel = with_assembly h.assembly n.channel }) e
      ∙ ap (reframed f) (sym (open_frame x n e))

  frame_reframed : (x : Frame) (f : Framing) (n : NodeState C) → with_frame ears answer x (reframed f n) ≡ reframed f (with_frame ears answer x n)
  frame_reframed x f n = frame_by (deaf ears answer n) x f n refl

  pub frames_reframed : (xs : List Frame) (f : Framing) (n : NodeState C) → with_frames ears answer xs (reframed f n) ≡ reframed f (with_frames ears answer xs n)
  frames_reframed [] f n = refl
  frames_reframed (x ∷ xs) f n = ap (with_frames ears answer xs) (frame_reframed x f n) ∙ frames_reframed xs f (with_frame ears answer x n)

  -- ---- deaf ends

  pub deaf_frames : (xs : List Frame) (n : NodeState C) → deaf ears answer n ≡ true → with_frames ears answer xs n ≡ n
  deaf_frames [] n e = refl
  deaf_frames (x ∷ xs) n e = ap (with_frames ears answer xs) (deaf_frame x n e) ∙ deaf_frames xs n e

  pub deaf_fault : (o : Option ℕ) (n : NodeState C) → deaf ears answer n ≡ true → with_fault ears answer o n ≡ n
  deaf_fault None n e = refl
  deaf_fault (Some code) n e = rw (e) refl

  pub deaf_after : (bytes : List ℕ) (n : NodeState C) → deaf ears answer n ≡ true → node_after ears answer bytes n ≡ n
  unfolding node_after
  deaf_after [] n e = refl
  deaf_after (b ∷ bytes) n e = rw (e) refl

  pub hearing_after : (b : ℕ) (bytes : List ℕ) (n : NodeState C) → deaf ears answer n ≡ false
      → node_after ears answer (b ∷ bytes) n ≡ stepped ears answer (b ∷ bytes) n
  unfolding node_after
  hearing_after b bytes n e = rw (e) refl

  pub frames_append : (xs ys : List Frame) (n : NodeState C) → with_frames ears answer (xs ++ ys) n ≡ with_frames ears answer ys (with_frames ears answer xs n)
  frames_append [] ys n = refl
  frames_append (x ∷ xs) ys n = frames_append xs ys (with_frame ears answer x n)

  -- what settles stays as deaf as it was
  pub settled_deaf : (n : NodeState C) → deaf ears answer n ≡ true → deaf ears answer (settled ears answer n) ≡ true
  settled_deaf n e = ap (deaf ears answer) (settled_shut n e) ∙ e

  pub told_deaf : (code : ℕ) (n : NodeState C) → Deafens ears answer → deaf ears answer (told ears answer (said.Fault code) n) ≡ true
  unfolding told
  told_deaf code n deafens = settled_deaf (answered ears answer (said.Fault code) n) (deafens code n.core)

  fault_by : (b : Bool) (code : ℕ) (n : NodeState C) → Deafens ears answer → deaf ears answer n ≡ b
      → deaf ears answer (with_fault ears answer (Some code) n) ≡ true
  fault_by true code n deafens e =
      ap (λ b. deaf ears answer (cond b n (told ears answer (said.Fault code) n))) e ∙ e
  fault_by false code n deafens e =
      ap (λ b. deaf ears answer (cond b n (told ears answer (said.Fault code) n))) e ∙ told_deaf code n deafens

  fault_deafens : (code : ℕ) (n : NodeState C) → Deafens ears answer → deaf ears answer (with_fault ears answer (Some code) n) ≡ true
  fault_deafens code n deafens = fault_by (deaf ears answer n) code n deafens refl

  -- ---- two pieces

  abbrev pub ended : Option ℕ → List Frame → NodeState C → NodeState C
  ended o xs n = with_fault ears answer o (with_frames ears answer xs n)

  pub stepped_is : (bytes : List ℕ) (n : NodeState C) → stepped ears answer bytes n
      ≡ ended (fault_of (after_feed bytes n.channel.framing).held) (frames_of bytes n.channel.framing) (framed_node ears answer bytes n)
  unfolding stepped
  stepped_is bytes n = refl

  -- the framing that an end has which isn't deaf after frames
  framing_is : (xs : List Frame) (n : NodeState C) → deaf ears answer n ≡ false → deaf ears answer (with_frames ears answer xs n) ≡ false
      → (with_frames ears answer xs n).channel.framing ≡ n.channel.framing
  framing_is xs n e hears =
      let f = n.channel.framing in
      let m = with_frames ears answer xs n in
      let same : reframed f n ≡ n = reframed_open f n e in
      let moved : m ≡ reframed f m = ap (with_frames ears answer xs) (sym same) ∙ frames_reframed xs f n in
      let open_is = reframed_open f m hears in
      ap (λ (k : NodeState C). k.channel.framing) (moved ∙ open_is)

  -- the second piece after frames of the first, which had no fault
  second_by : (c : Bool) (b : ℕ) (bytes : List ℕ) (xs : List Frame) (n : NodeState C) → deaf ears answer n ≡ false
      → deaf ears answer (with_frames ears answer xs n) ≡ c
      → ended (fault_of (after_feed (b ∷ bytes) n.channel.framing).held) (frames_of (b ∷ bytes) n.channel.framing)
      (reframed (kept (after_feed (b ∷ bytes) n.channel.framing)) (with_frames ears answer xs n))
      ≡ node_after ears answer (b ∷ bytes) (with_frames ears answer xs n)
  second_by true b bytes xs n open_is e =
      let m = with_frames ears answer xs n in
      let fault = fault_of (after_feed (b ∷ bytes) n.channel.framing).held in
      let frames = frames_of (b ∷ bytes) n.channel.framing in
      let same = reframed_deaf (kept (after_feed (b ∷ bytes) n.channel.framing)) m e in
      ap (ended fault frames) same
      ∙ ap (with_fault ears answer fault) (deaf_frames frames m e)
      ∙ deaf_fault fault m e
      ∙ sym (deaf_after (b ∷ bytes) m e)
  second_by false b bytes xs n open_is e =
      let m = with_frames ears answer xs n in
      let f = n.channel.framing in
      let same = reframed_open (kept (after_feed (b ∷ bytes) f)) m e in
      ap (ended (fault_of (after_feed (b ∷ bytes) f).held) (frames_of (b ∷ bytes) f)) same
      ∙ ap (λ (g : Framing). ended (fault_of (after_feed (b ∷ bytes) g).held) (frames_of (b ∷ bytes) g) (reframe (kept (after_feed (b ∷ bytes) g)) m)) (sym (framing_is xs n open_is e))
      ∙ sym (stepped_is (b ∷ bytes) m)
      ∙ sym (hearing_after b bytes m e)

  -- both pieces, by the fault of the first
  both_by : (o : Option ℕ) (x : ℕ) (xs : List ℕ) (y : ℕ) (ys : List ℕ) (n : NodeState C) → Deafens ears answer → deaf ears answer n ≡ false
      → fault_of (after_feed (x ∷ xs) n.channel.framing).held ≡ o
      → stepped ears answer ((x ∷ xs) ++ (y ∷ ys)) n ≡ node_after ears answer (y ∷ ys) (stepped ears answer (x ∷ xs) n)
  both_by None x xs y ys n deafens e is =
      let front = x ∷ xs in
      let back = y ∷ ys in
      let f = n.channel.framing in
      let fa = after_feed front f in
      let g = kept (after_feed back fa) in
      let fault = fault_of (after_feed back fa).held in
      let n0 = reframe fa n in
      let m = with_frames ears answer (frames_of front f) n0 in
      let first : stepped ears answer front n ≡ m =
      stepped_is front n ∙ ap (λ (o : Option ℕ). ended o (frames_of front f) (reframe (kept_by o fa) n)) is in
      stepped_is (front ++ back) n
      ∙ ap (λ (t : Framing). ended (fault_of t.held) (frames_of (front ++ back) f) (reframe (kept t) n)) (cut_state front back f)
      ∙ ap (λ (fs : List Frame). ended fault fs (reframe g n)) (cut_frames front back f)
      ∙ ap (with_fault ears answer fault) (frames_append (frames_of front f) (frames_of back fa) (reframe g n))
      ∙ ap (λ (k : NodeState C). ended fault (frames_of back fa) (with_frames ears answer (frames_of front f) k)) (sym (reframed_open g n0 e))
      ∙ ap (ended fault (frames_of back fa)) (frames_reframed (frames_of front f) g n0)
      ∙ second_by (deaf ears answer m) y ys (frames_of front f) n0 e refl
      ∙ ap (node_after ears answer back) (sym first)
  both_by (Some code) x xs y ys n deafens e is =
      let front = x ∷ xs in
      let back = y ∷ ys in
      let f = n.channel.framing in
      let fa = after_feed front f in
      let stay = stays back fa code is in
      let fault : fault_of (after_feed (front ++ back) f).held ≡ Some code = ap (λ (t : Framing). fault_of t.held) (cut_state front back f) ∙ stay.fault in
      let frames : frames_of (front ++ back) f ≡ frames_of front f =
      cut_frames front back f ∙ ap (λ (gs : List Frame). frames_of front f ++ gs) stay.frames ∙ append-nil (frames_of front f) in
      let m = ended (Some code) (frames_of front f) (reframe new_framing n) in
      let first : stepped ears answer front n ≡ m =
      stepped_is front n ∙ ap (λ (o : Option ℕ). ended o (frames_of front f) (reframe (kept_by o fa) n)) is in
      let ends : deaf ears answer m ≡ true = fault_deafens code (with_frames ears answer (frames_of front f) (reframe new_framing n)) deafens in
      stepped_is (front ++ back) n
      ∙ ap (λ (o : Option ℕ). ended o (frames_of (front ++ back) f) (reframe (kept_by o (after_feed (front ++ back) f)) n)) fault
      ∙ ap (λ (fs : List Frame). ended (Some code) fs (reframe new_framing n)) frames
      ∙ sym (deaf_after back m ends)
      ∙ ap (node_after ears answer back) (sym first)

  cut_by : (b : Bool) (x : ℕ) (xs : List ℕ) (y : ℕ) (ys : List ℕ) (n : NodeState C) → Deafens ears answer → deaf ears answer n ≡ b
      → node_after ears answer ((x ∷ xs) ++ (y ∷ ys)) n ≡ node_after ears answer (y ∷ ys) (node_after ears answer (x ∷ xs) n)
  cut_by true x xs y ys n deafens e =
      deaf_after ((x ∷ xs) ++ (y ∷ ys)) n e
      ∙ sym (deaf_after (y ∷ ys) n e)
      ∙ ap (node_after ears answer (y ∷ ys)) (sym (deaf_after (x ∷ xs) n e))
  cut_by false x xs y ys n deafens e =
      hearing_after x (xs ++ (y ∷ ys)) n e
      ∙ both_by (fault_of (after_feed (x ∷ xs) n.channel.framing).held) x xs y ys n deafens e refl
      ∙ ap (node_after ears answer (y ∷ ys)) (sym (hearing_after x xs n e))

  nothing_after : (n : NodeState C) → node_after ears answer [] n ≡ n
  unfolding node_after
  nothing_after n = refl

  pub cut_node : (first second : List ℕ) (n : NodeState C) → Deafens ears answer
      → node_after ears answer (first ++ second) n ≡ node_after ears answer second (node_after ears answer first n)
  cut_node [] second n deafens = ap (node_after ears answer second) (sym (nothing_after n))
  cut_node (x ∷ xs) [] n deafens =
      ap (λ (bytes : List ℕ). node_after ears answer bytes n) (append-nil (x ∷ xs)) ∙ sym (nothing_after (node_after ears answer (x ∷ xs) n))
  cut_node (x ∷ xs) (y ∷ ys) n deafens = cut_by (deaf ears answer n) x xs y ys n deafens refl
