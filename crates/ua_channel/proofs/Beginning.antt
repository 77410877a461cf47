-- Of some first bytes of messages the first of the messages are heard.
use Rattle.std.proofs.Common.{◌≡◌, ◌⊎◌, ℕ, Bool, true, false, List, [], ◌∷◌, ◌++◌, length, None, refl, sym, ap, subst, ◌∙◌, inl, inr}
use Rattle.ua_chunks.specs.declared.frame.Frame.{Frame}
use Rattle.ua_chunks.specs.Frames.{fault_of, moved}
use Rattle.ua_chunks.specs.Framing.{Framing, after_feed, frames_of}
use Rattle.ua_chunks.specs.Arrival.{placed}
use Rattle.ua_chunks.proofs.Leading.{front_sound}
use Rattle.ua_chunks.proofs.Pieces.{cut_frames}
use Rattle.ua_channel.specs.declared.ear.Ear.{Ear}
use Rattle.ua_channel.specs.declared.heard.Heard.{Heard}
use Rattle.ua_channel.specs.declared.wire.Order.{Order}
use Rattle.ua_channel.specs.State.{kept_by}
use Rattle.ua_channel.specs.Orders.{wire_parts}
use Rattle.ua_channel.specs.Arriving.{Arrive, Follows, HearsFront, SameButPart, Sent, bytes_of, heard_all, heard_next, sent_bytes}
use Rattle.ua_channel.specs.Node.{Deafens, NodeState, deaf, node_after, stepped, with_frame, with_frames}
use Rattle.ua_channel.proofs.Cutting.{cut_node, deaf_after, deaf_frames, ended, frames_reframed, hearing_after, reframe, reframed, reframed_deaf, reframed_open, stepped_is}
use Rattle.ua_channel.proofs.Coming.{Hushed, hears_it, next_open, one_heard, true_false}
use Rattle.ua_channel.proofs.Parting.{parts_bring, parts_by}

-- ---- lists

none_left : (x : ℕ) (xs : List ℕ) → x ∷ xs ≡ [] → ⊥
none_left x xs e = absurd cc

no_frame_left : (x : Frame) (xs : List Frame) → x ∷ xs ≡ [] → ⊥
no_frame_left x xs e = absurd cc

-- two lists of bytes that are one: the first two are a front of each other
abbrev pub Meets : List ℕ → List ℕ → List ℕ → List ℕ → Type 0
Meets a b c d = ((rest : List ℕ) × (a ≡ c ++ rest) × (rest ++ b ≡ d)) ⊎ ((rest : List ℕ) × (c ≡ a ++ rest))

head_same : (x y : ℕ) (xs ys : List ℕ) → x ∷ xs ≡ y ∷ ys → x ≡ y
head_same x y xs ys e = cc

tail_same : (x y : ℕ) (xs ys : List ℕ) → x ∷ xs ≡ y ∷ ys → xs ≡ ys
tail_same x y xs ys e = cc

meets : (a b c d : List ℕ) → a ++ b ≡ c ++ d → Meets a b c d
meets a b [] d e = inl (a, refl, e)
meets [] b (y ∷ c) d e = inr (y ∷ c, refl)
meets (x ∷ a) b (y ∷ c) d e =
    let here = head_same x y (a ++ b) (c ++ d) e in
    elim (meets a b c d (tail_same x y (a ++ b) (c ++ d) e)) [
      | inl first ↦ inl (first.0, ap (λ (l : List ℕ). x ∷ l) first.1 ∙ ap (λ (z : ℕ). z ∷ (c ++ first.0)) here, first.2)
      | inr second ↦ inr (second.0, ap (λ (l : List ℕ). y ∷ l) second.1 ∙ ap (λ (z : ℕ). z ∷ (a ++ second.0)) (sym here))
    ]

module _ {C : Type 0} (ears : C → Ear) (answer : Heard → C → C × List Order) where
  same_it : (n : NodeState C) → SameButPart n n
  same_it n = record { core = refl; sending = refl; out = refl }

  same_then : (x y z : NodeState C) → SameButPart x y → SameButPart y z → SameButPart x z
  same_then x y z a b = record { core = a.core ∙ b.core; sending = a.sending ∙ b.sending; out = a.out ∙ b.out }

  same_back : (x y : NodeState C) → SameButPart x y → SameButPart y x
  same_back x y a = record { core = sym a.core; sending = sym a.sending; out = sym a.out }

  same_by : (b : Bool) (f : Framing) (n : NodeState C) → deaf ears answer n ≡ b → SameButPart (reframed ears answer f n) n
  same_by true f n e = subst (λ x. SameButPart x n) (sym (reframed_deaf ears answer f n e)) (same_it n)
  same_by false f n e = subst (λ x. SameButPart x n) (sym (reframed_open ears answer f n e)) (record { core = refl; sending = refl; out = refl })

  -- frames with another framing
  same_frames : (xs : List Frame) (f : Framing) (n : NodeState C) → deaf ears answer n ≡ false
      → SameButPart (with_frames ears answer xs (reframe ears answer f n)) (with_frames ears answer xs n)
  same_frames xs f n e =
      let m = with_frames ears answer xs n in
      let same : with_frames ears answer xs (reframe ears answer f n) ≡ reframed ears answer f m =
      ap (with_frames ears answer xs) (sym (reframed_open ears answer f n e)) ∙ frames_reframed ears answer xs f n in
      subst (λ x. SameButPart x m) (sym same) (same_by (deaf ears answer m) f m refl)

  -- a front of the frames of a message tells nothing, or what all of them tell
  abbrev pub Fronts : List Frame → List Frame → NodeState C → Type 0
  Fronts xs frames n = SameButPart (with_frames ears answer xs n) n ⊎ (with_frames ears answer xs n ≡ with_frames ears answer frames n)

  tail_frames : (x y : Frame) (xs ys : List Frame) → x ∷ xs ≡ y ∷ ys → xs ≡ ys
  tail_frames x y xs ys e = cc

  head_frames : (x y : Frame) (xs ys : List Frame) → x ∷ xs ≡ y ∷ ys → x ≡ y
  head_frames x y xs ys e = cc

  none_first : (xs ys : List Frame) → xs ++ ys ≡ [] → xs ≡ []
  none_first [] ys e = refl
  none_first (x ∷ xs) ys e = absurd (no_frame_left x (xs ++ ys) e)

  fronts : (xs ys frames : List Frame) (n : NodeState C) → frames ≡ xs ++ ys → Hushed ears answer frames n → Fronts xs frames n
  fronts [] ys frames n e hushed = inl (same_it n)
  fronts (x ∷ xs) ys [] n e hushed = absurd (no_frame_left x (xs ++ ys) (sym e))
  fronts (x ∷ xs) ys (f ∷ fs) n e hushed =
      let here : f ≡ x = head_frames f x fs (xs ++ ys) e in
      let rest : fs ≡ xs ++ ys = tail_frames f x fs (xs ++ ys) e in
      let next = with_frame ears answer f n in
      subst (λ (y : Frame). Fronts (y ∷ xs) (f ∷ fs) n) here (elim hushed [
        | inl last ↦
            let none : xs ≡ [] = none_first xs ys (sym rest ∙ last) in
            inr (ap (λ (l : List Frame). with_frames ears answer l next) (none ∙ sym last))
        | inr more ↦ elim more [
          | inl ends ↦ inr (deaf_frames ears answer xs next ends ∙ sym (deaf_frames ears answer fs next ends))
          | inr quiet ↦ elim (fronts xs ys fs next rest quiet.1) [
            | inl same ↦ inl (same_then (with_frames ears answer xs next) next n same quiet.0)
            | inr all ↦ inr all
          ]
        ]
      ])

  -- ---- some first bytes of a message

  abbrev pub Hears1 : List ℕ → Sent → NodeState C → Type 0
  Hears1 front m n = SameButPart (node_after ears answer front n) n ⊎ SameButPart (node_after ears answer front n) (heard_next ears answer m n)

  nothing : (n : NodeState C) → node_after ears answer [] n ≡ n
  unfolding node_after
  nothing n = refl

  front_stepped : (front : List ℕ) (n : NodeState C) → fault_of (after_feed front n.channel.framing).held ≡ None
      → stepped ears answer front n ≡ with_frames ears answer (frames_of front n.channel.framing) (reframe ears answer (after_feed front n.channel.framing) n)
  front_stepped front n none =
      let f = n.channel.framing in
      stepped_is ears answer front n
      ∙ ap (λ o. ended ears answer o (frames_of front f) (reframe ears answer (kept_by o (after_feed front f)) n)) none

  front_by : (m : Sent) (front rest : List ℕ) (n : NodeState C) → deaf ears answer n ≡ false → Deafens ears answer → Follows m n.channel → sent_bytes m ≡ front ++ rest → Hears1 front m n
  front_by m [] rest n e deafens follows are = inl (subst (λ x. SameButPart x n) (sym (nothing n)) (same_it n))
  front_by m (b ∷ bytes) rest n e deafens follows are =
      let front = b ∷ bytes in
      let f = n.channel.framing in
      let sent = follows.sent in
      let frames = placed f.place (wire_parts m.wire m.by) in
      let parts = parts_by m.wire.kind m.wire m.by sent.sending sent.request sent.short sent.fits in
      let brings = parts_bring parts.size (wire_parts m.wire m.by) f follows.expects.between parts.small parts.each in
      let xs = frames_of front f in
      let ys = frames_of rest (after_feed front f) in
      let whole : frames ≡ xs ++ ys = sym brings.frames_are ∙ ap (λ (l : List ℕ). frames_of l f) are ∙ cut_frames front rest f in
      let sound : fault_of (after_feed (front ++ rest) f).held ≡ None =
      ap (λ (l : List ℕ). fault_of (after_feed l f).held) (sym are) ∙ ap (λ (t : Framing). fault_of t.held) brings.state ∙ ap (λ (l : List ℕ). fault_of l) follows.expects.between.1 in
      let none = front_sound front rest f sound in
      let g = after_feed front f in
      let comes : node_after ears answer front n ≡ with_frames ears answer xs (reframe ears answer g n) = hearing_after ears answer b bytes n e ∙ front_stepped front n none in
      let hears = hears_it ears answer m n e deafens follows in
      let moves = record f { place = moved f.place (length (sent_bytes m)) } in
      let all : with_frames ears answer frames (reframe ears answer moves n) ≡ heard_next ears answer m n = hears.tells ∙ sym (next_open ears answer m n e) in
      let here = subst (λ x. SameButPart x (with_frames ears answer xs n)) (sym comes) (same_frames xs g n e) in
      elim (fronts xs ys frames n whole hears.hushed) [
        | inl quiet ↦ inl (same_then (node_after ears answer front n) (with_frames ears answer xs n) n here quiet)
        | inr same ↦
            let there = subst (λ x. SameButPart x (with_frames ears answer frames n)) all (same_frames frames moves n e) in
            inr (same_then (node_after ears answer front n) (with_frames ears answer xs n) (heard_next ears answer m n) here
            (subst (λ x. SameButPart x (heard_next ears answer m n)) (sym same) (same_back (heard_next ears answer m n) (with_frames ears answer frames n) there)))
      ]

  part_by : (d : Bool) (m : Sent) (front rest : List ℕ) (n : NodeState C) → deaf ears answer n ≡ d → Deafens ears answer → (deaf ears answer n ≡ true) ⊎ Follows m n.channel
      → sent_bytes m ≡ front ++ rest → Hears1 front m n
  part_by true m front rest n e deafens ready are = inl (subst (λ x. SameButPart x n) (sym (deaf_after ears answer front n e)) (same_it n))
  part_by false m front rest n e deafens (inl is) are = absurd (true_false ears answer (deaf ears answer n) is e)
  part_by false m front rest n e deafens (inr follows) are = front_by m front rest n e deafens follows are

  -- ---- some first bytes of all

  empty_front : (front more : List ℕ) → front ++ more ≡ [] → front ≡ []
  empty_front [] more e = refl
  empty_front (x ∷ front) more e = absurd (none_left x (front ++ more) e)

  pub front_heard : (front more : List ℕ) (sent : List Sent) (n : NodeState C) → Deafens ears answer → Arrive ears answer sent n → front ++ more ≡ bytes_of sent
      → HearsFront ears answer front sent n
  front_heard front more [] n deafens arrive e =
      let none = empty_front front more e in
      record { before = []; later = []; are = refl; same = subst (λ x. SameButPart x n) (sym (ap (λ (l : List ℕ). node_after ears answer l n) none ∙ nothing n)) (same_it n) }
  front_heard front more (m ∷ sent) n deafens arrive e = elim (meets front more (sent_bytes m) (bytes_of sent) e) [
    | inl past ↦
        let next = heard_next ears answer m n in
        let first : node_after ears answer front n ≡ node_after ears answer past.0 next =
        ap (λ (l : List ℕ). node_after ears answer l n) past.1
        ∙ cut_node ears answer (sent_bytes m) past.0 n deafens
        ∙ ap (node_after ears answer past.0) (one_heard ears answer m n deafens arrive.0) in
        let others = front_heard past.0 more sent next deafens arrive.1 past.2 in
        record {
          before = m ∷ others.before;
          later = others.later;
          are = ap (λ (l : List Sent). m ∷ l) others.are;
          same = subst (λ x. SameButPart x (heard_all ears answer others.before next)) (sym first) others.same;
        }
    | inr within ↦ elim (part_by (deaf ears answer n) m front within.0 n refl deafens arrive.0 within.1) [
      | inl quiet ↦ record { before = []; later = m ∷ sent; are = refl; same = quiet }
      | inr told ↦ record { before = m ∷ []; later = sent; are = refl; same = told }
    ]
  ]
