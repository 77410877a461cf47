-- One message, heard by an end that awaits its number.
use Rattle.std.proofs.Common.{◌≡◌, ◌⊎◌, ℕ, ◌==◌, Bool, true, false, cond, not, List, [], ◌∷◌, length, Option, Some, None, refl, sym, ap, subst, ◌∙◌, arith, inl, inr}
use Rattle.std.specs.List.{AllByRecursion}
use Rattle.std.proofs.lemmas.Bool.Decides.{nat_tests}
use Rattle.ua_base.specs.Status.{bad_secure_channel_token_unknown, bad_tcp_message_type_invalid, bad_tcp_secure_channel_unknown}
use Rattle.ua_values.specs.Reading.{input}
use Rattle.ua_chunks.specs.declared.frame.Kind.{Kind}
use Rattle.ua_chunks.specs.declared.frame.Kind.TheVariants as kind
use Rattle.ua_chunks.specs.declared.frame.Frame.{Frame}
use Rattle.ua_chunks.specs.declared.message.Message.{Message}
use Rattle.ua_chunks.specs.declared.message.MessageFault.{MessageFault}
use Rattle.ua_chunks.specs.Frames.{fault_of, moved}
use Rattle.ua_chunks.specs.Framing.{Brings, Framing, IsBetween, frames_of}
use Rattle.ua_chunks.specs.Assembly.{Assembly, Leads, RefusesFirst, Tokens, after_frame, assembled, message_of, takes_number, takes_token, tokens_of, used, with_number}
use Rattle.ua_base.specs.Number.{after_chunk}
use Rattle.ua_chunks.specs.Sending.{Sending, after_put, opn_part, parts_of}
use Rattle.ua_chunks.specs.Bodies.{policy_at, value_of}
use Rattle.ua_chunks.specs.Arrival.{InStep, IsPut, message_put, placed}
use Rattle.ua_chunks.proofs.Arriving.{number_follows, same_number}
use Rattle.ua_chunks.proofs.BodyLaws.{opn_again, policy_again}
use Rattle.ua_chunks.proofs.Leading.{foreign_channel, foreign_token}
use Rattle.ua_chunks.proofs.Putting.{comes}
use Rattle.ua_channel.specs.declared.ear.Ear.{Ear}
use Rattle.ua_channel.specs.declared.ear.Ear.TheVariants as ear
use Rattle.ua_channel.specs.declared.heard.Heard.{Heard}
use Rattle.ua_channel.specs.declared.heard.Heard.TheVariants as said
use Rattle.ua_channel.specs.declared.wire.Order.{Order}
use Rattle.ua_channel.specs.declared.wire.Order.TheVariants as order
use Rattle.ua_channel.specs.declared.side.Side.{Side}
use Rattle.ua_channel.specs.declared.side.Side.TheVariants as sides
use Rattle.ua_channel.specs.State.{ChannelState, MayCarry, WireState, is_deaf, kept, kept_by, shut}
use Rattle.ua_channel.specs.Hearing.{Hearing, chunk_heard, chunk_said, hearing, heard_of, message_said, number_taken, opened, opening_heard, opening_read, says, takes, with_assembly, with_policy}
use Rattle.ua_channel.specs.Orders.{done, fits, fits_in, obeyed_all, put_on, undone, wire_parts, wire_parts_by}
use Rattle.ua_channel.specs.Messages.{Judged, hearing_of, judged_by, judges, message_of_channel}
use Rattle.ua_channel.specs.Arriving.{Arrive, Expects, Follows, SameButPart, Sent, after_sent, assembly_after, bytes_of, heard_all, heard_in, heard_next, past, sent_bytes}
use Rattle.ua_channel.specs.Node.{Deafens, NodeState, after_hearing, answered, deaf, node_after, stepped, told, with_frame, with_frames}
use Rattle.ua_channel.proofs.Cutting.{cut_node, deaf_after, deaf_frames, ended, hearing_after, open_frame, reframe, settled_shut, stepped_is, told_deaf}
use Rattle.ua_channel.proofs.Parting.{PartsBy, between_past, clo_put, msg_put, parts_bring, parts_by, put_in, some_bytes}

-- ---- what an end that turns deaf had before

abbrev pub Forgets : List Order → Framing → Framing → Type 0
Forgets os f g = (a b : Assembly) (c : ChannelState)
    → shut (obeyed_all os (record c { framing = f; assembly = a })) ≡ shut (obeyed_all os (record c { framing = g; assembly = b }))

forgets_by : (d : Bool) (o : Order) (os : List Order) (f g : Framing) (a b : Assembly) (c : ChannelState) → Forgets os f g
    → shut (obeyed_all os (cond d (done o (record c { framing = f; assembly = a })) (undone o (record c { framing = f; assembly = a }))))
    ≡ shut (obeyed_all os (cond d (done o (record c { framing = g; assembly = b })) (undone o (record c { framing = g; assembly = b }))))
unfolding put_on
forgets_by true (order.Put w) os f g a b c others = others a b (put_on w c)
forgets_by true (order.Limit l) os f g a b c others = others a b (done (order.Limit l) c)
forgets_by true (order.Renew channel token) os f g a b c others =
    others (done (order.Renew channel token) (record c { assembly = a })).assembly (done (order.Renew channel token) (record c { assembly = b })).assembly c
forgets_by false (order.Put w) os f g a b c others = others a b (undone (order.Put w) c)
forgets_by false (order.Limit l) os f g a b c others = others a b c
forgets_by false (order.Renew channel token) os f g a b c others = others a b c

forgets : (os : List Order) (f g : Framing) → Forgets os f g
forgets [] f g a b c = refl
forgets (o ∷ os) f g a b c = forgets_by (fits_in o c.sending) o os f g a b c (forgets os f g)

-- ---- a frame and a message, judged

frame_takes : (d : Side) (e : Ear) (f : Frame) (a : Assembly) (k : Kind) → f.kind ≡ k → takes e k ≡ true → hearing d e f a ≡ heard_of d k f a
unfolding hearing
frame_takes d e f a k same is =
    ap (λ (j : Kind). cond (takes e j) (heard_of d j f a) (says (said.Fault bad_tcp_message_type_invalid) a)) same
    ∙ ap (λ b. cond b (heard_of d k f a) (says (said.Fault bad_tcp_message_type_invalid) a)) is

frame_refused : (d : Side) (e : Ear) (f : Frame) (a : Assembly) (k : Kind) → f.kind ≡ k → takes e k ≡ false → hearing d e f a ≡ says (said.Fault bad_tcp_message_type_invalid) a
unfolding hearing
frame_refused d e f a k same is =
    ap (λ (j : Kind). cond (takes e j) (heard_of d j f a) (says (said.Fault bad_tcp_message_type_invalid) a)) same
    ∙ ap (λ b. cond b (heard_of d k f a) (says (said.Fault bad_tcp_message_type_invalid) a)) is

wire_takes : (e : Ear) (w : WireState) (t : Tokens) (k : Kind) → w.kind ≡ k → takes e k ≡ true → hearing_of e w t ≡ judged_by k w t
unfolding hearing_of
wire_takes e w t k same is =
    ap (λ (j : Kind). cond (takes e j) (judged_by j w t) (judges (said.Fault bad_tcp_message_type_invalid) t)) same
    ∙ ap (λ b. cond b (judged_by k w t) (judges (said.Fault bad_tcp_message_type_invalid) t)) is

wire_refused : (e : Ear) (w : WireState) (t : Tokens) (k : Kind) → w.kind ≡ k → takes e k ≡ false → hearing_of e w t ≡ judges (said.Fault bad_tcp_message_type_invalid) t
unfolding hearing_of
wire_refused e w t k same is =
    ap (λ (j : Kind). cond (takes e j) (judged_by j w t) (judges (said.Fault bad_tcp_message_type_invalid) t)) same
    ∙ ap (λ b. cond b (judged_by k w t) (judges (said.Fault bad_tcp_message_type_invalid) t)) is

-- an OPN without security is read by both sides
side_reads : (d : Side) (body : List ℕ) (a : Assembly) → with_policy (value_of (policy_at (input 0 body))) body a ≡ opening_read body a
    → opening_heard d body a ≡ opening_read body a
side_reads sides.Client body a is = refl
side_reads sides.Server body a is = is

no_err : (e : Ear) → takes e kind.Err ≡ true → ⊥
no_err ear.Hello is = absurd cc
no_err ear.Acknowledge is = absurd cc
no_err ear.Opening is = absurd cc
no_err ear.Open is = absurd cc
no_err ear.Deaf is = absurd cc

-- nothing is said of a chunk that ends no message
nothing_said : (k : Kind) → message_said k None ≡ None
nothing_said kind.Hel = refl
nothing_said kind.Ack = refl
nothing_said kind.Err = refl
nothing_said kind.Opn = refl
nothing_said kind.Msg = refl
nothing_said kind.Clo = refl

chunk_of : (d : Side) (k : Kind) (f : Frame) (a : Assembly) → (k ≡ kind.Msg) ⊎ (k ≡ kind.Clo) → heard_of d k f a ≡ chunk_heard k f a
chunk_of d k f a (inl e) = subst (λ k. heard_of d k f a ≡ chunk_heard k f a) (sym e) refl
chunk_of d k f a (inr e) = subst (λ k. heard_of d k f a ≡ chunk_heard k f a) (sym e) refl

-- ---- what is left, where nothing was wrong

pub record Goes (m : Sent) (c : ChannelState) (a : Assembly) (t : Tokens) : Type 0 where
  pub expects : Expects (after_sent m).next (record c { framing = record c.framing { place = moved c.framing.place (length (sent_bytes m)) }; assembly = a })
  pub tokens : tokens_of a ≡ t

-- it is a fault, or all goes on
abbrev pub Outcome : Heard → Sent → ChannelState → Assembly → Tokens → Type 0
Outcome h m c a t = ((code : ℕ) × (h ≡ said.Fault code)) ⊎ Goes m c a t

-- a greeting changes nothing
greeting_goes : (k : Kind) (m : Sent) (c : ChannelState) → m.wire.kind ≡ k → after_sent m ≡ m.by → Expects m.by.next c → Goes m c c.assembly (tokens_of c.assembly)
greeting_goes k m c same stays x = record {
  expects = record {
    number = subst (λ (s : Sending). takes_number s.next c.assembly.last ≡ true) (sym stays) x.number;
    chunks = x.chunks;
    body = x.body;
    fault = x.fault;
    between = between_past c.framing (length (sent_bytes m)) x.between;
  };
  tokens = refl;
}

module _ {C : Type 0} (ears : C → Ear) (answer : Heard → C → C × List Order) where
  told_forgets : (h : Heard) (core : C) (f g : Framing) (a b : Assembly) (c : ChannelState) → is_deaf (ears (answer h core).0) ≡ true
      → told ears answer h (record { core = core; channel = record c { framing = f; assembly = a } })
      ≡ told ears answer h (record { core = core; channel = record c { framing = g; assembly = b } })
  unfolding told
  told_forgets h core f g a b c e =
      let os = (answer h core).1 in
      settled_shut ears answer (answered ears answer h (record { core = core; channel = record c { framing = f; assembly = a } })) e
      ∙ ap (λ (d : ChannelState). record { core = (answer h core).0; channel = d }) (forgets os f g a b c)
      ∙ sym (settled_shut ears answer (answered ears answer h (record { core = core; channel = record c { framing = g; assembly = b } })) e)

  -- a frame of which something is heard
  pub frame_says : (f : Frame) (n : NodeState C) (h : Heard) (a : Assembly) → deaf ears answer n ≡ false → hearing n.channel.side (ears n.core) f n.channel.assembly ≡ says h a
      → with_frame ears answer f n ≡ told ears answer h (record n { channel = with_assembly a n.channel })
  frame_says f n h a e is = open_frame ears answer f n e ∙ ap (λ (x : Hearing). after_hearing ears answer x n) is

  -- the frames of an end that stands between two messages
  abbrev pub moved_node : ℕ → NodeState C → NodeState C
  moved_node count n = reframe ears answer (record n.channel.framing { place = moved n.channel.framing.place count }) n

  pub stepped_brings : (bytes : List ℕ) (frames : List Frame) (n : NodeState C) → IsBetween n.channel.framing → Brings frames bytes n.channel.framing
      → stepped ears answer bytes n ≡ with_frames ears answer frames (moved_node (length bytes) n)
  stepped_brings bytes frames n between b =
      let f = n.channel.framing in
      let g = record f { place = moved f.place (length bytes) } in
      stepped_is ears answer bytes n
      ∙ ap (λ (t : Framing). ended ears answer (fault_of t.held) (frames_of bytes f) (reframe ears answer (kept t) n)) b.state
      ∙ ap (λ (fs : List Frame). ended ears answer (fault_of f.held) fs (reframe ears answer (kept_by (fault_of f.held) g) n)) b.frames_are
      ∙ ap (λ (held : List ℕ). ended ears answer (fault_of held) frames (reframe ears answer (kept_by (fault_of held) g) n)) between.1

  node_by : (bytes : List ℕ) (frames : List Frame) (n : NodeState C) → deaf ears answer n ≡ false → IsBetween n.channel.framing → (frames ≡ [] → ⊥)
      → Brings frames bytes n.channel.framing
      → node_after ears answer bytes n ≡ with_frames ears answer frames (moved_node (length bytes) n)
  node_by [] frames n e between some b = absurd (some_bytes frames n.channel.framing between some b)
  node_by (x ∷ xs) frames n e between some b = hearing_after ears answer x xs n e ∙ stepped_brings (x ∷ xs) frames n between b

  -- ---- a fault at the first frame

  -- what a message makes of a node: it tells this
  abbrev pub Tells : Heard → Assembly → Sent → List Frame → NodeState C → Type 0
  Tells h a m frames n =
      with_frames ears answer frames (moved_node (length (sent_bytes m)) n)
      ≡ told ears answer h (record n {
        channel = record n.channel {
          framing = record n.channel.framing { place = moved n.channel.framing.place (length (sent_bytes m)) };
          assembly = a;
        };
      })

  -- what a front of frames tells is nothing, or what all tell: each before the last is quiet, or makes the end deaf
  abbrev pub Hushed : List Frame → NodeState C → Type 0
  Hushed [] n = Unit {0}
  Hushed (f ∷ fs) n =
      (fs ≡ []) ⊎ ((deaf ears answer (with_frame ears answer f n) ≡ true)
      ⊎ (SameButPart (with_frame ears answer f n) n × Hushed fs (with_frame ears answer f n)))

  abbrev pub Both : Heard → Assembly → Sent → List Frame → NodeState C → Type 0
  Both h a m frames n = Tells h a m frames n × Hushed frames n

  refused : (code : ℕ) (m : Sent) (x : Frame) (xs : List Frame) (n : NodeState C) (a b : Assembly) → deaf ears answer n ≡ false → Deafens ears answer
      → hearing n.channel.side (ears n.core) x n.channel.assembly ≡ says (said.Fault code) b → Both (said.Fault code) a m (x ∷ xs) n
  refused code m x xs n a b e deafens is =
      let k = moved_node (length (sent_bytes m)) n in
      let t = record k { channel = with_assembly b k.channel } in
      let d = record n { channel = with_assembly b n.channel } in (
        ap (with_frames ears answer xs) (frame_says x k (said.Fault code) b e is)
            ∙ deaf_frames ears answer xs (told ears answer (said.Fault code) t) (told_deaf ears answer code t deafens)
            ∙ told_forgets (said.Fault code) n.core k.channel.framing k.channel.framing b a n.channel (deafens code n.core),
        inr (inl (ap (deaf ears answer) (frame_says x n (said.Fault code) b e is) ∙ told_deaf ears answer code d deafens)),
      )

  uncons : (frames : List Frame) → (frames ≡ [] → ⊥) → (x : Frame) × (xs : List Frame) × (frames ≡ x ∷ xs)
  uncons [] some = absurd (some refl)
  uncons (x ∷ xs) some = (x, xs, refl)

  -- a kind that isn't taken
  pub kind_refused : (k : Kind) (m : Sent) (n : NodeState C) (a : Assembly) → deaf ears answer n ≡ false → Deafens ears answer → takes (ears n.core) k ≡ false
      → PartsBy k m.wire m.by → Both (said.Fault bad_tcp_message_type_invalid) a m (placed n.channel.framing.place (wire_parts_by k m.wire m.by)) n
  kind_refused k m n a e deafens other parts =
      let frames = placed n.channel.framing.place (wire_parts_by k m.wire m.by) in
      let u = uncons frames (parts.some n.channel.framing.place) in
      let kinds = subst (λ fs. AllByRecursion (λ (f : Frame). f.kind ≡ k) fs) u.2 (parts.kinds n.channel.framing.place) in
      subst (λ fs. Both (said.Fault bad_tcp_message_type_invalid) a m fs n) (sym u.2)
      (refused bad_tcp_message_type_invalid m u.0 u.1 n a n.channel.assembly e deafens (frame_refused n.channel.side (ears n.core) u.0 n.channel.assembly k kinds.0 other))

  -- the first chunk breaks a rule of the channel
  pub chunk_refused : (k : Kind) (code place : ℕ) (m : Sent) (n : NodeState C) (a : Assembly) (frames : List Frame) → (k ≡ kind.Msg) ⊎ (k ≡ kind.Clo)
      → deaf ears answer n ≡ false → Deafens ears answer → takes (ears n.core) k ≡ true → AllByRecursion (λ (f : Frame). f.kind ≡ k) frames
      → RefusesFirst frames (record { place = place; code = code }) n.channel.assembly → Both (said.Fault code) a m frames n
  chunk_refused k code place m n a frames is e deafens taken kinds r =
      let b = n.channel.assembly in
      let first = subst (λ fs. AllByRecursion (λ (f : Frame). f.kind ≡ k) fs) r.are kinds in
      let hears : hearing n.channel.side (ears n.core) r.first b ≡ says (said.Fault code) (after_frame r.first b) =
      frame_takes n.channel.side (ears n.core) r.first b k first.0 taken
      ∙ chunk_of n.channel.side k r.first b is
      ∙ ap (λ (o : Option MessageFault). record { heard = chunk_said o k r.first b; assembly = after_frame r.first b }) r.breaks in
      subst (λ fs. Both (said.Fault code) a m fs n) (sym r.are)
      (refused code m r.first r.others n a (after_frame r.first b) e deafens hears)

  -- the chunks of a message that is taken
  pub led : (k : Kind) (x : Message) (h : Heard) (frames : List Frame) (n : NodeState C) → (k ≡ kind.Msg) ⊎ (k ≡ kind.Clo) → deaf ears answer n ≡ false
      → takes (ears n.core) k ≡ true → AllByRecursion (λ (f : Frame). f.kind ≡ k) frames → message_said k (Some x) ≡ Some h → Leads frames x n.channel.assembly
      → with_frames ears answer frames n ≡ told ears answer h (record n { channel = with_assembly (assembled frames n.channel.assembly) n.channel })
  led k x h [] n is e taken kinds says_it leads = absurd leads
  led k x h (f ∷ fs) n is e taken kinds says_it leads =
      let a = n.channel.assembly in
      let b = after_frame f a in
      let hears : hearing n.channel.side (ears n.core) f a ≡ record { heard = message_said k (message_of f a); assembly = b } =
      frame_takes n.channel.side (ears n.core) f a k kinds.0 taken
      ∙ chunk_of n.channel.side k f a is
      ∙ ap (λ (o : Option MessageFault). record { heard = chunk_said o k f a; assembly = b }) leads.0 in
      elim leads.1 [
        | inl last ↦
            subst (λ fs. with_frames ears answer (f ∷ fs) n ≡ told ears answer h (record n { channel = with_assembly (assembled (f ∷ fs) a) n.channel })) (sym last.0)
            (frame_says f n h b e (hears ∙ ap (λ (o : Option Message). record { heard = message_said k o; assembly = b }) last.1 ∙ ap (λ (o : Option Heard). record { heard = o; assembly = b }) says_it))
        | inr more ↦
            let quiet : hearing n.channel.side (ears n.core) f a ≡ record { heard = None; assembly = b } =
            hears
            ∙ ap (λ (o : Option Message). record { heard = message_said k o; assembly = b }) more.0
            ∙ ap (λ (o : Option Heard). record { heard = o; assembly = b }) (nothing_said k) in
            ap (with_frames ears answer fs) (open_frame ears answer f n e ∙ ap (λ (y : Hearing). after_hearing ears answer y n) quiet)
            ∙ led k x h fs (record n { channel = with_assembly b n.channel }) is e taken kinds.1 says_it more.1
      ]

  led_hushed : (k : Kind) (x : Message) (frames : List Frame) (n : NodeState C) → (k ≡ kind.Msg) ⊎ (k ≡ kind.Clo) → deaf ears answer n ≡ false
      → takes (ears n.core) k ≡ true → AllByRecursion (λ (f : Frame). f.kind ≡ k) frames → Leads frames x n.channel.assembly → Hushed frames n
  led_hushed k x [] n is e taken kinds leads = absurd leads
  led_hushed k x (f ∷ fs) n is e taken kinds leads = elim leads.1 [
    | inl last ↦ inl last.0
    | inr more ↦
        let a = n.channel.assembly in
        let b = after_frame f a in
        let next = record n { channel = with_assembly b n.channel } in
        let same : with_frame ears answer f n ≡ next =
        open_frame ears answer f n e
        ∙ ap (λ (y : Hearing). after_hearing ears answer y n)
        (frame_takes n.channel.side (ears n.core) f a k kinds.0 taken
        ∙ chunk_of n.channel.side k f a is
        ∙ ap (λ (o : Option MessageFault). record { heard = chunk_said o k f a; assembly = b }) leads.0
        ∙ ap (λ (o : Option Message). record { heard = message_said k o; assembly = b }) more.0
        ∙ ap (λ (o : Option Heard). record { heard = o; assembly = b }) (nothing_said k)) in
        inr (inr (subst (λ (m : NodeState C). SameButPart m n × Hushed fs m) (sym same)
        (record { core = refl; sending = refl; out = refl }, led_hushed k x fs next is e taken kinds.1 more.1)))
  ]

  -- ---- a message, by its kind

  -- what a node hears of it, and what it leaves
  pub record Hears (k : Kind) (m : Sent) (n : NodeState C) : Type 0 where
    pub tells : Tells (heard_in ears answer m n) (assembly_after k m n.channel.framing.place n.channel.assembly) m (placed n.channel.framing.place (wire_parts_by k m.wire m.by)) n
    pub hushed : Hushed (placed n.channel.framing.place (wire_parts_by k m.wire m.by)) n
    pub outcome : Outcome (heard_in ears answer m n) m n.channel (assembly_after k m n.channel.framing.place n.channel.assembly)
        (hearing_of (ears n.core) m.wire (tokens_of n.channel.assembly)).tokens

  hears_fault : (k : Kind) (code : ℕ) (m : Sent) (n : NodeState C) → hearing_of (ears n.core) m.wire (tokens_of n.channel.assembly) ≡ judges (said.Fault code) (tokens_of n.channel.assembly)
      → Both (said.Fault code) (assembly_after k m n.channel.framing.place n.channel.assembly) m (placed n.channel.framing.place (wire_parts_by k m.wire m.by)) n
      → Hears k m n
  hears_fault k code m n e both =
      let same : heard_in ears answer m n ≡ said.Fault code = ap (λ (j : Judged). j.heard) e in
      record {
        tells = subst (λ h. Tells h (assembly_after k m n.channel.framing.place n.channel.assembly) m (placed n.channel.framing.place (wire_parts_by k m.wire m.by)) n) (sym same) both.0;
        hushed = both.1;
        outcome = inl (code, same);
      }

  hears_message : (k : Kind) (h : Heard) (t : Tokens) (m : Sent) (n : NodeState C) → hearing_of (ears n.core) m.wire (tokens_of n.channel.assembly) ≡ judges h t
      → Tells h (assembly_after k m n.channel.framing.place n.channel.assembly) m (placed n.channel.framing.place (wire_parts_by k m.wire m.by)) n
      → Hushed (placed n.channel.framing.place (wire_parts_by k m.wire m.by)) n
      → Goes m n.channel (assembly_after k m n.channel.framing.place n.channel.assembly) t
      → Hears k m n
  hears_message k h t m n e tells hushed goes =
      let a = assembly_after k m n.channel.framing.place n.channel.assembly in
      record {
        tells = subst (λ (j : Judged). Tells j.heard a m (placed n.channel.framing.place (wire_parts_by k m.wire m.by)) n) (sym e) tells;
        hushed = hushed;
        outcome = inr (subst (λ (j : Judged). Goes m n.channel a j.tokens) (sym e) goes);
      }

  -- a greeting
  greeting_hears : (h : Heard) (k : Kind) (m : Sent) (n : NodeState C) (x : Frame) → m.wire.kind ≡ k → deaf ears answer n ≡ false → Follows m n.channel → takes (ears n.core) k ≡ true
      → placed n.channel.framing.place (wire_parts_by k m.wire m.by) ≡ x ∷ [] → x.kind ≡ k → heard_of n.channel.side k x n.channel.assembly ≡ says h n.channel.assembly
      → judged_by k m.wire (tokens_of n.channel.assembly) ≡ judges h (tokens_of n.channel.assembly)
      → assembly_after k m n.channel.framing.place n.channel.assembly ≡ n.channel.assembly → after_sent m ≡ m.by → Hears k m n
  greeting_hears h k m n x same e follows taken are kind_is frame_is wire_is left stays =
      let a = n.channel.assembly in
      hears_message k h (tokens_of a) m n (wire_takes (ears n.core) m.wire (tokens_of a) k same taken ∙ wire_is)
      (subst (λ fs. Tells h (assembly_after k m n.channel.framing.place a) m fs n) (sym are)
      (subst (λ b. Tells h b m (x ∷ []) n) (sym left)
      (frame_says x (moved_node (length (sent_bytes m)) n) h a e (frame_takes n.channel.side (ears n.core) x a k kind_is taken ∙ frame_is))))
      (subst (λ fs. Hushed fs n) (sym are) (inl refl))
      (subst (λ b. Goes m n.channel b (tokens_of a)) (sym left) (greeting_goes k m n.channel same stays follows.expects))

  opn_hears : (m : Sent) (n : NodeState C) → m.wire.kind ≡ kind.Opn → deaf ears answer n ≡ false → Follows m n.channel → takes (ears n.core) kind.Opn ≡ true → Hears kind.Opn m n
  opn_hears m n same e follows taken =
      let w = m.wire in
      let s = m.by in
      let a = n.channel.assembly in
      let body = (opn_part w.request w.body s).body in
      let h = said.Opening w.channel true w.request w.body in
      let x : Frame = record { place = n.channel.framing.place; kind = kind.Opn; chunk = (opn_part w.request w.body s).chunk; body = body } in
      let sent = follows.sent in
      let reads : heard_of n.channel.side kind.Opn x a ≡ says h (with_number s.next a) =
      side_reads n.channel.side body a (ap (λ r. with_policy r body a) (policy_again w.request w.body s sent.sending sent.request))
      ∙ ap (λ r. opened r a) (opn_again w.request w.body s sent.sending sent.request)
      ∙ ap (λ b. says (said.Opening s.channel b w.request w.body) (number_taken b s.next a)) follows.expects.number
      ∙ ap (λ (c : ℕ). says (said.Opening c true w.request w.body) (with_number s.next a)) (sym sent.channel) in
      let next : after_sent m ≡ record s { next = after_chunk s.next } = ap (λ (k : Kind). after_put k w.request w.body s) same in
      hears_message kind.Opn h (tokens_of a) m n (wire_takes (ears n.core) w (tokens_of a) kind.Opn same taken)
      (frame_says x (moved_node (length (sent_bytes m)) n) h (with_number s.next a) e (frame_takes n.channel.side (ears n.core) x a kind.Opn refl taken ∙ reads))
      (inl refl)
      (record {
        expects = record {
          number = subst (λ (r : Sending). takes_number r.next (Some s.next) ≡ true) (sym next) (number_follows s.next);
          chunks = follows.expects.chunks;
          body = follows.expects.body;
          fault = follows.expects.fault;
          between = between_past n.channel.framing (length (sent_bytes m)) follows.expects.between;
        };
        tokens = refl;
      })

  pub true_false : (b : Bool) → b ≡ true → b ≡ false → ⊥
  true_false b t f = absurd cc

  channel_is : (n m : ℕ) → (n == m) ≡ true → n ≡ m
  channel_is n m e = grind (arith, nat_tests)

  -- a MSG or a CLO, by whether its channel and its token are those of the end
  message_by : (b c : Bool) (k : Kind) (h : Heard) (m : Sent) (n : NodeState C) → (k ≡ kind.Msg) ⊎ (k ≡ kind.Clo) → m.wire.kind ≡ k → deaf ears answer n ≡ false → Deafens ears answer
      → Follows m n.channel → takes (ears n.core) k ≡ true → IsPut (put_in k m.wire) m.by → PartsBy k m.wire m.by
      → judged_by k m.wire (tokens_of n.channel.assembly) ≡ message_of_channel h m.wire (tokens_of n.channel.assembly)
      → message_said k (Some (message_put (put_in k m.wire))) ≡ Some h
      → wire_parts_by k m.wire m.by ≡ parts_of k m.wire.request m.wire.body m.by
      → assembly_after k m n.channel.framing.place n.channel.assembly ≡ assembled (placed n.channel.framing.place (wire_parts_by k m.wire m.by)) n.channel.assembly
      → (m.wire.channel == n.channel.assembly.channel) ≡ b → takes_token m.wire.token n.channel.assembly ≡ c → Hears k m n
  message_by false c k h m n is same e deafens follows taken put parts wire_is says_it are left b_is c_is =
      let a = n.channel.assembly in
      let t = tokens_of a in
      let place = n.channel.framing.place in
      let judged : hearing_of (ears n.core) m.wire t ≡ judges (said.Fault bad_tcp_secure_channel_unknown) t =
      wire_takes (ears n.core) m.wire t k same taken ∙ wire_is
      ∙ ap (λ b. cond (not b) (judges (said.Fault bad_tcp_secure_channel_unknown) t) (cond (not (takes_token m.wire.token a)) (judges (said.Fault bad_secure_channel_token_unknown) t) (judges h (used m.wire.token t)))) b_is in
      let other : m.by.channel ≡ a.channel → ⊥ = λ equal. true_false (m.wire.channel == a.channel) (same_number a.channel m.wire.channel (sym (follows.sent.channel ∙ equal))) b_is in
      let r = foreign_channel place (put_in k m.wire) m.by a follows.sent.sending put follows.expects.fault other in
      hears_fault k bad_tcp_secure_channel_unknown m n judged
      (chunk_refused k bad_tcp_secure_channel_unknown place m n (assembly_after k m place a) (placed place (wire_parts_by k m.wire m.by)) is e deafens taken (parts.kinds place)
      (subst (λ ps. RefusesFirst (placed place ps) (record { place = place; code = bad_tcp_secure_channel_unknown }) a) (sym are) r))
  message_by true false k h m n is same e deafens follows taken put parts wire_is says_it are left b_is c_is =
      let a = n.channel.assembly in
      let t = tokens_of a in
      let place = n.channel.framing.place in
      let judged : hearing_of (ears n.core) m.wire t ≡ judges (said.Fault bad_secure_channel_token_unknown) t =
      wire_takes (ears n.core) m.wire t k same taken ∙ wire_is
      ∙ ap (λ b. cond (not b) (judges (said.Fault bad_tcp_secure_channel_unknown) t) (cond (not (takes_token m.wire.token a)) (judges (said.Fault bad_secure_channel_token_unknown) t) (judges h (used m.wire.token t)))) b_is
      ∙ ap (λ c. cond (not c) (judges (said.Fault bad_secure_channel_token_unknown) t) (judges h (used m.wire.token t))) c_is in
      let channel : m.by.channel ≡ a.channel = sym follows.sent.channel ∙ channel_is m.wire.channel a.channel b_is in
      let token : takes_token m.by.token a ≡ false = ap (λ (x : ℕ). takes_token x a) (sym follows.sent.token) ∙ c_is in
      let r = foreign_token place (put_in k m.wire) m.by a follows.sent.sending put follows.expects.fault channel token in
      hears_fault k bad_secure_channel_token_unknown m n judged
      (chunk_refused k bad_secure_channel_token_unknown place m n (assembly_after k m place a) (placed place (wire_parts_by k m.wire m.by)) is e deafens taken (parts.kinds place)
      (subst (λ ps. RefusesFirst (placed place ps) (record { place = place; code = bad_secure_channel_token_unknown }) a) (sym are) r))
  message_by true true k h m n is same e deafens follows taken put parts wire_is says_it are left b_is c_is =
      let a = n.channel.assembly in
      let t = tokens_of a in
      let place = n.channel.framing.place in
      let frames = placed place (wire_parts_by k m.wire m.by) in
      let x = follows.expects in
      let judged : hearing_of (ears n.core) m.wire t ≡ judges h (used m.wire.token t) =
      wire_takes (ears n.core) m.wire t k same taken ∙ wire_is
      ∙ ap (λ b. cond (not b) (judges (said.Fault bad_tcp_secure_channel_unknown) t) (cond (not (takes_token m.wire.token a)) (judges (said.Fault bad_secure_channel_token_unknown) t) (judges h (used m.wire.token t)))) b_is
      ∙ ap (λ c. cond (not c) (judges (said.Fault bad_secure_channel_token_unknown) t) (judges h (used m.wire.token t))) c_is in
      let step : InStep m.by a = record {
        channel = sym (channel_is m.wire.channel a.channel b_is) ∙ follows.sent.channel;
        token = ap (λ (y : ℕ). takes_token y a) (sym follows.sent.token) ∙ c_is;
        number = x.number;
        chunks = x.chunks;
        body = x.body;
        fault = x.fault;
      } in
      let c = comes place (put_in k m.wire) m.by a follows.sent.sending step put in
      let leads = subst (λ ps. Leads (placed place ps) (message_put (put_in k m.wire)) a) (sym are) c.leads in
      let after : after_sent m ≡ after_put k m.wire.request m.wire.body m.by = ap (λ (j : Kind). after_put j m.wire.request m.wire.body m.by) same in
      let in_step : InStep (after_sent m) (assembled frames a) =
      subst (λ (r : Sending). InStep r (assembled frames a)) (sym after)
      (subst (λ ps. InStep (after_put k m.wire.request m.wire.body m.by) (assembled (placed place ps) a)) (sym are) c.in_step) in
      hears_message k h (used m.wire.token t) m n judged
      (subst (λ b. Tells h b m frames n) (sym left)
      (led k (message_put (put_in k m.wire)) h frames (moved_node (length (sent_bytes m)) n) is e taken (parts.kinds place) says_it leads))
      (led_hushed k (message_put (put_in k m.wire)) frames n is e taken (parts.kinds place) leads)
      (subst (λ b. Goes m n.channel b (used m.wire.token t)) (sym left) (record {
        expects = record {
          number = in_step.number;
          chunks = in_step.chunks;
          body = in_step.body;
          fault = in_step.fault;
          between = between_past n.channel.framing (length (sent_bytes m)) x.between;
        };
        tokens = ap (λ ps. tokens_of (assembled (placed place ps) a)) are ∙ c.tokens ∙ ap (λ (y : ℕ). used y t) (sym follows.sent.token);
      }))

  taken_by : (k : Kind) (m : Sent) (n : NodeState C) → m.wire.kind ≡ k → deaf ears answer n ≡ false → Deafens ears answer → Follows m n.channel
      → MayCarry k (length m.wire.body) → fits k (length m.wire.body) m.by ≡ true → takes (ears n.core) k ≡ true → Hears k m n
  taken_by kind.Hel m n same e deafens follows short fit taken =
      greeting_hears (said.Greeting m.wire.body) kind.Hel m n _ same e follows taken refl refl refl refl refl (ap (λ (k : Kind). after_put k m.wire.request m.wire.body m.by) same)
  taken_by kind.Ack m n same e deafens follows short fit taken =
      greeting_hears (said.Greeting m.wire.body) kind.Ack m n _ same e follows taken refl refl refl refl refl (ap (λ (k : Kind). after_put k m.wire.request m.wire.body m.by) same)
  taken_by kind.Err m n same e deafens follows short fit taken = absurd (no_err (ears n.core) taken)
  taken_by kind.Opn m n same e deafens follows short fit taken = opn_hears m n same e follows taken
  taken_by kind.Msg m n same e deafens follows short fit taken =
      message_by (m.wire.channel == n.channel.assembly.channel) (takes_token m.wire.token n.channel.assembly) kind.Msg (said.Message m.wire.request m.wire.body) m n (inl refl) same e deafens follows taken
      (msg_put m.wire m.by follows.sent.request fit) (parts_by kind.Msg m.wire m.by follows.sent.sending follows.sent.request short fit) refl refl refl refl refl refl
  taken_by kind.Clo m n same e deafens follows short fit taken =
      message_by (m.wire.channel == n.channel.assembly.channel) (takes_token m.wire.token n.channel.assembly) kind.Clo said.Close m n (inr refl) same e deafens follows taken
      (clo_put m.wire m.by follows.sent.request short fit) (parts_by kind.Clo m.wire m.by follows.sent.sending follows.sent.request short fit) refl refl refl refl refl refl

  hears_by : (b : Bool) (m : Sent) (n : NodeState C) → deaf ears answer n ≡ false → Deafens ears answer → Follows m n.channel → takes (ears n.core) m.wire.kind ≡ b → Hears m.wire.kind m n
  hears_by true m n e deafens follows is = taken_by m.wire.kind m n refl e deafens follows follows.sent.short follows.sent.fits is
  hears_by false m n e deafens follows is =
      hears_fault m.wire.kind bad_tcp_message_type_invalid m n (wire_refused (ears n.core) m.wire (tokens_of n.channel.assembly) m.wire.kind refl is)
      (kind_refused m.wire.kind m n (assembly_after m.wire.kind m n.channel.framing.place n.channel.assembly) e deafens is
      (parts_by m.wire.kind m.wire m.by follows.sent.sending follows.sent.request follows.sent.short follows.sent.fits))

  pub hears_it : (m : Sent) (n : NodeState C) → deaf ears answer n ≡ false → Deafens ears answer → Follows m n.channel → Hears m.wire.kind m n
  hears_it m n e deafens follows = hears_by (takes (ears n.core) m.wire.kind) m n e deafens follows refl

  -- ---- a message, and all of them

  pub next_deaf : (m : Sent) (n : NodeState C) → deaf ears answer n ≡ true → heard_next ears answer m n ≡ n
  unfolding heard_next
  next_deaf m n e = ap (λ b. cond b n (told ears answer (heard_in ears answer m n) (record n { channel = past m n.channel }))) e

  pub next_open : (m : Sent) (n : NodeState C) → deaf ears answer n ≡ false → heard_next ears answer m n ≡ told ears answer (heard_in ears answer m n) (record n { channel = past m n.channel })
  unfolding heard_next
  next_open m n e = ap (λ b. cond b n (told ears answer (heard_in ears answer m n) (record n { channel = past m n.channel }))) e

  one_by : (b : Bool) (m : Sent) (n : NodeState C) → Deafens ears answer → deaf ears answer n ≡ b → (deaf ears answer n ≡ true) ⊎ Follows m n.channel
      → node_after ears answer (sent_bytes m) n ≡ heard_next ears answer m n
  one_by true m n deafens e ready = deaf_after ears answer (sent_bytes m) n e ∙ sym (next_deaf m n e)
  one_by false m n deafens e (inl is) = absurd (true_false (deaf ears answer n) is e)
  one_by false m n deafens e (inr follows) =
      let place = n.channel.framing.place in
      let sent = follows.sent in
      let parts = parts_by m.wire.kind m.wire m.by sent.sending sent.request sent.short sent.fits in
      let b = parts_bring parts.size (wire_parts m.wire m.by) n.channel.framing follows.expects.between parts.small parts.each in
      node_by (sent_bytes m) (placed place (wire_parts m.wire m.by)) n e follows.expects.between (parts.some place) b
      ∙ (hears_it m n e deafens follows).tells
      ∙ sym (next_open m n e)

  pub one_heard : (m : Sent) (n : NodeState C) → Deafens ears answer → (deaf ears answer n ≡ true) ⊎ Follows m n.channel
      → node_after ears answer (sent_bytes m) n ≡ heard_next ears answer m n
  one_heard m n deafens ready = one_by (deaf ears answer n) m n deafens refl ready

  nothing_comes : (n : NodeState C) → node_after ears answer [] n ≡ n
  unfolding node_after
  nothing_comes n = refl

  pub all_heard : (sent : List Sent) (n : NodeState C) → Deafens ears answer → Arrive ears answer sent n → node_after ears answer (bytes_of sent) n ≡ heard_all ears answer sent n
  all_heard [] n deafens arrive = nothing_comes n
  all_heard (m ∷ sent) n deafens arrive =
      cut_node ears answer (sent_bytes m) (bytes_of sent) n deafens
      ∙ ap (node_after ears answer (bytes_of sent)) (one_heard m n deafens arrive.0)
      ∙ all_heard sent (heard_next ears answer m n) deafens arrive.1
