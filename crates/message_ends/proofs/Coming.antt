-- Messages that come on a connection of a node: over bytes and over messages.
use Rattle.std.proofs.Common.{◌≡◌, ◌⊎◌, ℕ, ◌==◌, Bool, true, false, cond, List, [], ◌∷◌, map, Option, Some, None, is_some, refl, sym, ap, subst, ◌∙◌, inl, inr}
use Rattle.ua_chunks.specs.Assembly.{Tokens, tokens_of}
use Rattle.ua_chunks.specs.Sending.{Sending, limit_of}
use Rattle.ua_channel.specs.declared.ear.Ear.{Ear}
use Rattle.ua_channel.specs.declared.heard.Heard.{Heard}
use Rattle.ua_channel.specs.declared.heard.Heard.TheVariants as said
use Rattle.ua_channel.specs.declared.hub.Rest.{Rest}
use Rattle.ua_channel.specs.declared.wire.Order.{Order}
use Rattle.ua_channel.specs.State.{ChannelState, WireState, blank_end, is_deaf}
use Rattle.ua_channel.specs.Messages.{hearing_of, no_tokens}
use Rattle.ua_channel.specs.Node.{Deafens, NodeState, deaf, node_after, node_of}
use Rattle.ua_channel.specs.Arriving.{AreLawful, Chain, Expects, Follows, Sent, after_sent, bytes_of, heard_all, heard_in, heard_next, past, after_orders}
use Rattle.ua_channel.specs.Sharing.{Ends, end_at, others, own, put_back, taken_at, taken_by, with_end}
use Rattle.ua_channel.proofs.Chaining.{chains_arrive}
use Rattle.ua_channel.proofs.Coming.{all_heard, next_deaf, next_open}
use Rattle.ua_channel.proofs.OneEnd.{others_apart}
use Rattle.ua_channel.proofs.Showing.{next_number}
use Rattle.message_ends.specs.Ends.{MessageEnd, MessageEnds, obeyed_all, out_by}
use Rattle.message_ends.specs.Talk.{Talk, heard_all as all_taken, heard_one}
use Rattle.message_ends.specs.Showing.{AllBring, EndShows, ExpectsIn, LimitIn, OrdersBring, ShowsEnd, Stands}
use Rattle.message_ends.proofs.Lookups.{end_apart, end_found, number_is, obeyed_in, other_way, others_obeyed}
use Rattle.message_ends.proofs.Ordering.{IsLawfulFor, bring_each, expects_in, obeys_in, sends_after}
use Rattle.message_ends.proofs.Hearing.{Leaves, end_hears, leaves, none_taken, taken_deaf, told_core, told_sending}

both_not : (b : Bool) → b ≡ true → b ≡ false → ⊥
both_not true t f = absurd cc
both_not false t f = absurd cc

-- a hub, and the ends of all its connections
module _ {H : Type 0} (ears : ℕ → H → Ear) (answers : ℕ → Heard → H → H × List (ℕ × Order)) where
  abbrev pub rest_ears : ℕ → Rest H → Ear
  rest_ears conn r = ears conn r.hub

  abbrev pub rest_answer : ℕ → Heard → Rest H → Rest H × List Order
  rest_answer conn h r = (
    record { hub = (answers conn h r.hub).0; channels = others conn (answers conn h r.hub).1 r.channels },
    own conn (answers conn h r.hub).1,
  )

  abbrev pub rest_ends : Rest H → Ends
  rest_ends r = r.channels

  abbrev pub put_ends : Ends → Rest H → Rest H
  put_ends ends r = record r { channels = ends }

  -- the rules that a hub keeps to
  pub record Laws (Keeps : H → Type 0) (Fits : Heard → Type 0) (Limits : ℕ → ℕ → H → Type 0) (Brings : WireState → Type 0) : Type 0 where
    pub deafens : (conn code : ℕ) (hub : H) → is_deaf (ears conn (answers conn (said.Fault code) hub).0) ≡ true
    pub keeps : (conn : ℕ) (h : Heard) (hub : H) → Keeps hub → Fits h → Keeps (answers conn h hub).0
    pub lawful : (conn number : ℕ) (h : Heard) (hub : H) → Keeps hub → Fits h
        → IsLawfulFor Limits number (answers conn h hub).1 hub (answers conn h hub).0
    pub brings : (conn : ℕ) (h : Heard) (hub : H) → Keeps hub → Fits h → OrdersBring Brings (answers conn h hub).1

  -- however it is judged, what is heard of a message fits
  abbrev pub ComesFit : (Heard → Type 0) → WireState → Type 0
  ComesFit Fits w = (e : Ear) (t : Tokens) → Fits (hearing_of e w t).heard

  abbrev pub AllComeFit : (Heard → Type 0) → List Sent → Type 0
  AllComeFit Fits [] = Unit {0}
  AllComeFit Fits (m ∷ sent) = ComesFit Fits m.wire × AllComeFit Fits sent

  module _ (Keeps : H → Type 0) (Fits : Heard → Type 0) (Limits : ℕ → ℕ → H → Type 0) (Brings : WireState → Type 0)
      (laws : Laws Keeps Fits Limits Brings) where
    -- the end of a connection was taken out
    record Apart (conn : ℕ) (firsts : ℕ → ℕ) (n : NodeState (Rest H)) (t : Talk H) : Type 0 where
      pub hub : n.core.hub ≡ t.hub
      pub end : MessageEnd
      pub is : t.ends conn ≡ Some end
      pub own_end : EndShows (firsts conn) n.channel end
      pub there : is_some (end_at conn n.core.channels) ≡ true
      pub other_ends : (k : ℕ) → (k == conn) ≡ false → ShowsEnd (firsts k) (end_at k n.core.channels) (t.ends k)
      pub keeps : Keeps n.core.hub
      pub limit : Limits conn (limit_of n.channel.sending) n.core.hub
      pub limits : (k : ℕ) → (k == conn) ≡ false → LimitIn Limits (end_at k n.core.channels) k n.core.hub
      pub brings : (k : ℕ) → AllBring Brings (out_by (t.ends k))

    deafens_here : (conn : ℕ) → Deafens (rest_ears conn) (rest_answer conn)
    deafens_here conn code r = laws.deafens conn code r.hub

    -- ---- what a message leaves of the core and of what puts

    next_core : (conn : ℕ) (m : Sent) (n : NodeState (Rest H)) → deaf (rest_ears conn) (rest_answer conn) n ≡ false
        → (heard_next (rest_ears conn) (rest_answer conn) m n).core ≡ (rest_answer conn (heard_in (rest_ears conn) (rest_answer conn) m n) n.core).0
    next_core conn m n hearing =
        ap (λ (x : NodeState (Rest H)). x.core) (next_open (rest_ears conn) (rest_answer conn) m n hearing)
        ∙ told_core (rest_ears conn) (rest_answer conn) (heard_in (rest_ears conn) (rest_answer conn) m n) (record n { channel = past m n.channel })

    next_sending : (conn : ℕ) (m : Sent) (n : NodeState (Rest H)) → deaf (rest_ears conn) (rest_answer conn) n ≡ false
        → AreLawful (rest_answer conn (heard_in (rest_ears conn) (rest_answer conn) m n) n.core).1 n.channel.sending
        → (heard_next (rest_ears conn) (rest_answer conn) m n).channel.sending
        ≡ after_orders (rest_answer conn (heard_in (rest_ears conn) (rest_answer conn) m n) n.core).1 n.channel.sending
    next_sending conn m n hearing lawful =
        ap (λ (x : NodeState (Rest H)). x.channel.sending) (next_open (rest_ears conn) (rest_answer conn) m n hearing)
        ∙ told_sending (rest_ears conn) (rest_answer conn) (heard_in (rest_ears conn) (rest_answer conn) m n) (record n { channel = past m n.channel })
        ∙ sends_after (rest_answer conn (heard_in (rest_ears conn) (rest_answer conn) m n) n.core).1 (past m n.channel) lawful

    -- ---- one message that is heard

    bring_by : (b : Bool) (conn k : ℕ) (orders : List (ℕ × Order)) (d : Bool) (e : MessageEnd) (former : MessageEnds) (after : H) (t : Talk H)
        → (k == conn) ≡ b → OrdersBring Brings orders → AllBring Brings e.out → ((j : ℕ) → AllBring Brings (out_by (former j)))
        → Leaves ears answers conn after orders d e former t → AllBring Brings (out_by (t.ends k))
    bring_by true conn k orders d e former after t same ones out all left =
        subst (λ (x : ℕ). AllBring Brings (out_by (t.ends x))) (sym (number_is k conn same))
        (subst (λ (x : Option MessageEnd). AllBring Brings (out_by x)) (sym left.own_end)
        (bring_each Brings conn orders (Some e) ones out))
    bring_by false conn k orders d e former after t differ ones out all left =
        subst (λ (x : Option MessageEnd). AllBring Brings (out_by x)) (sym (left.other_ends k differ))
        (bring_each Brings k orders (former k) ones (all k))

    heard_open : (conn : ℕ) (firsts : ℕ → ℕ) (m : Sent) (n : NodeState (Rest H)) (ends : MessageEnds) (out : List WireState)
        → ComesFit Fits m.wire → deaf (rest_ears conn) (rest_answer conn) n ≡ false → Follows m n.channel
        → (s : Apart conn firsts n (record { hub = n.core.hub; ends = ends }))
        → s.end ≡ record { tokens = tokens_of n.channel.assembly; out = out }
        → Apart conn firsts (heard_next (rest_ears conn) (rest_answer conn) m n) (heard_one ears answers conn m.wire (record { hub = n.core.hub; ends = ends }))
    heard_open conn firsts m n ends out fits hearing follows s same =
        let t : Talk H = record { hub = n.core.hub; ends = ends } in
        let e : MessageEnd = record { tokens = tokens_of n.channel.assembly; out = out } in
        let j = hearing_of (ears conn n.core.hub) m.wire (tokens_of n.channel.assembly) in
        let fit = fits (ears conn n.core.hub) (tokens_of n.channel.assembly) in
        let did = answers conn j.heard n.core.hub in
        let d = is_deaf (ears conn did.0) in
        let lawful = laws.lawful conn conn j.heard n.core.hub s.keeps fit n.channel.sending s.limit in
        let left = leaves ears answers d conn m.wire e t (s.is ∙ ap (λ (x : MessageEnd). Some x) same) hearing refl in
        let core = next_core conn m n hearing in
        let ones = laws.brings conn j.heard n.core.hub s.keeps fit in
        let shown = subst (EndShows (firsts conn) n.channel) same s.own_end in
        let step = λ (k : ℕ) (differ : (k == conn) ≡ false).
        obeys_in Limits k (firsts k) did.1 n.core.hub did.0 (end_at k n.core.channels) (ends k)
        (laws.lawful conn k j.heard n.core.hub s.keeps fit) (s.limits k differ) (s.other_ends k differ) in
        record {
          hub = ap (λ (x : Rest H). x.hub) core ∙ sym left.hub;
          end = record { tokens = cond d no_tokens (obeyed_all (own conn did.1) (record { tokens = j.tokens; out = out })).tokens; out = (obeyed_all (own conn did.1) (record { tokens = j.tokens; out = out })).out };
          is = left.own_end;
          own_end = end_hears (rest_ears conn) (rest_answer conn) d (firsts conn) m n out (deafens_here conn) hearing follows lawful.0 refl shown;
          there = ap (λ (x : Rest H). is_some (end_at conn x.channels)) core
              ∙ ap (λ (o : Option ChannelState). is_some o) (others_apart conn did.1 n.core.channels) ∙ s.there;
          other_ends = λ k differ.
              subst (λ (x : Rest H). ShowsEnd (firsts k) (end_at k x.channels) ((heard_one ears answers conn m.wire t).ends k)) (sym core)
              (subst (λ (x : Option ChannelState). ShowsEnd (firsts k) x ((heard_one ears answers conn m.wire t).ends k)) (sym (others_obeyed conn k did.1 n.core.channels differ))
              (subst (λ (x : Option MessageEnd). ShowsEnd (firsts k) (obeyed_in (own k did.1) (end_at k n.core.channels)) x) (sym (left.other_ends k differ))
              (step k differ).0));
          keeps = subst (λ (x : Rest H). Keeps x.hub) (sym core) (laws.keeps conn j.heard n.core.hub s.keeps fit);
          limit = subst (λ (x : Rest H). Limits conn (limit_of (heard_next (rest_ears conn) (rest_answer conn) m n).channel.sending) x.hub) (sym core)
              (subst (λ (x : Sending). Limits conn (limit_of x) did.0) (sym (next_sending conn m n hearing lawful.0)) lawful.1);
          limits = λ k differ.
              subst (λ (x : Rest H). LimitIn Limits (end_at k x.channels) k x.hub) (sym core)
              (subst (λ (x : Option ChannelState). LimitIn Limits x k did.0) (sym (others_obeyed conn k did.1 n.core.channels differ)) (step k differ).1);
          brings = λ k. bring_by (k == conn) conn k did.1 d (record { tokens = j.tokens; out = out }) ends did.0 (heard_one ears answers conn m.wire t) refl ones
              (subst (λ (x : Option MessageEnd). AllBring Brings (out_by x)) (s.is ∙ ap (λ (x : MessageEnd). Some x) same) (s.brings conn)) s.brings left;
        }

    heard_by : (b : Bool) (conn : ℕ) (firsts : ℕ → ℕ) (m : Sent) (n : NodeState (Rest H)) (t : Talk H) → ComesFit Fits m.wire
        → deaf (rest_ears conn) (rest_answer conn) n ≡ b → (deaf (rest_ears conn) (rest_answer conn) n ≡ true) ⊎ Follows m n.channel
        → Apart conn firsts n t → Apart conn firsts (heard_next (rest_ears conn) (rest_answer conn) m n) (heard_one ears answers conn m.wire t)
    heard_by true conn firsts m n t fits is ready s =
        subst (λ (x : NodeState (Rest H)). Apart conn firsts x (heard_one ears answers conn m.wire t)) (sym (next_deaf (rest_ears conn) (rest_answer conn) m n is))
        (subst (Apart conn firsts n) (sym (taken_deaf ears answers conn m.wire t s.end s.is (ap (λ (x : H). is_deaf (ears conn x)) (sym s.hub) ∙ is))) s)
    heard_by false conn firsts m n t fits is (inl shut) s = absurd (both_not (deaf (rest_ears conn) (rest_answer conn) n) shut is)
    heard_by false conn firsts m n t fits is (inr follows) s =
        let x : Talk H = record { hub = n.core.hub; ends = t.ends } in
        let same : x ≡ t = ap (λ (h : H). record { hub = h; ends = t.ends }) s.hub in
        let s' : Apart conn firsts n x = record {
          hub = refl;
          end = s.end;
          is = s.is;
          own_end = s.own_end;
          there = s.there;
          other_ends = s.other_ends;
          keeps = s.keeps;
          limit = s.limit;
          limits = s.limits;
          brings = s.brings;
        } in
        subst (λ (y : Talk H). Apart conn firsts (heard_next (rest_ears conn) (rest_answer conn) m n) (heard_one ears answers conn m.wire y)) same
        (heard_open conn firsts m n t.ends s.end.out fits is follows s'
        (ap (λ (k : Tokens). record { tokens = k; out = s.end.out }) (sym s.own_end.tokens)))

    -- ---- all messages of a chain

    record Came (conn next : ℕ) (firsts : ℕ → ℕ) (n : NodeState (Rest H)) (t : Talk H) : Type 0 where
      pub apart : Apart conn firsts n t
      pub awaits : (deaf (rest_ears conn) (rest_answer conn) n ≡ true) ⊎ Expects next n.channel

    chain_heard : (conn first next : ℕ) (firsts : ℕ → ℕ) (sent : List Sent) (n : NodeState (Rest H)) (t : Talk H) → AllComeFit Fits sent → Chain first sent next
        → (deaf (rest_ears conn) (rest_answer conn) n ≡ true) ⊎ Expects first n.channel → Apart conn firsts n t
        → Came conn next firsts (heard_all (rest_ears conn) (rest_answer conn) sent n) (all_taken ears answers conn (map (λ (m : Sent). m.wire) sent) t)
    chain_heard conn first next firsts [] n t fits chain awaits s = record {
      apart = s;
      awaits = subst (λ (k : ℕ). (deaf (rest_ears conn) (rest_answer conn) n ≡ true) ⊎ Expects k n.channel) chain awaits;
    }
    chain_heard conn first next firsts (m ∷ sent) n t fits chain (inl shut) s =
        chain_heard conn (after_sent m).next next firsts sent (heard_next (rest_ears conn) (rest_answer conn) m n) (heard_one ears answers conn m.wire t) fits.1 chain.2
        (inl (ap (deaf (rest_ears conn) (rest_answer conn)) (next_deaf (rest_ears conn) (rest_answer conn) m n shut) ∙ shut))
        (heard_by (deaf (rest_ears conn) (rest_answer conn) n) conn firsts m n t fits.0 refl (inl shut) s)
    chain_heard conn first next firsts (m ∷ sent) n t fits chain (inr x) s =
        let follows : Follows m n.channel = record { sent = chain.1; expects = subst (λ k. Expects k n.channel) (sym chain.0) x } in
        chain_heard conn (after_sent m).next next firsts sent (heard_next (rest_ears conn) (rest_answer conn) m n) (heard_one ears answers conn m.wire t) fits.1 chain.2
        (next_number (rest_ears conn) (rest_answer conn) m n (deafens_here conn) follows)
        (heard_by (deaf (rest_ears conn) (rest_answer conn) n) conn firsts m n t fits.0 refl (inr follows) s)

    -- ---- what the others await

    expect_by : (b : Bool) (conn k x : ℕ) (m : Sent) (n : NodeState (Rest H)) → (k == conn) ≡ false → deaf (rest_ears conn) (rest_answer conn) n ≡ b
        → ExpectsIn x (end_at k n.core.channels) → ExpectsIn x (end_at k (heard_next (rest_ears conn) (rest_answer conn) m n).core.channels)
    expect_by true conn k x m n differ is awaits =
        subst (λ (y : NodeState (Rest H)). ExpectsIn x (end_at k y.core.channels)) (sym (next_deaf (rest_ears conn) (rest_answer conn) m n is)) awaits
    expect_by false conn k x m n differ is awaits =
        let orders = (answers conn (heard_in (rest_ears conn) (rest_answer conn) m n) n.core.hub).1 in
        subst (λ (y : Rest H). ExpectsIn x (end_at k y.channels)) (sym (next_core conn m n is))
        (subst (ExpectsIn x) (sym (others_obeyed conn k orders n.core.channels differ)) (expects_in (own k orders) x (end_at k n.core.channels) awaits))

    expect_all : (conn k x : ℕ) (sent : List Sent) (n : NodeState (Rest H)) → (k == conn) ≡ false
        → ExpectsIn x (end_at k n.core.channels) → ExpectsIn x (end_at k (heard_all (rest_ears conn) (rest_answer conn) sent n).core.channels)
    expect_all conn k x [] n differ awaits = awaits
    expect_all conn k x (m ∷ sent) n differ awaits =
        expect_all conn k x sent (heard_next (rest_ears conn) (rest_answer conn) m n) differ
        (expect_by (deaf (rest_ears conn) (rest_answer conn) n) conn k x m n differ refl awaits)

    -- ---- which ends are there

    some_obeyed : (orders : List Order) (o : Option ChannelState) → is_some (obeyed_in orders o) ≡ is_some o
    some_obeyed orders None = refl
    some_obeyed orders (Some c) = refl

    there_by : (b : Bool) (conn k : ℕ) (m : Sent) (n : NodeState (Rest H)) → (k == conn) ≡ false → deaf (rest_ears conn) (rest_answer conn) n ≡ b
        → is_some (end_at k (heard_next (rest_ears conn) (rest_answer conn) m n).core.channels) ≡ is_some (end_at k n.core.channels)
    there_by true conn k m n differ is =
        ap (λ (y : NodeState (Rest H)). is_some (end_at k y.core.channels)) (next_deaf (rest_ears conn) (rest_answer conn) m n is)
    there_by false conn k m n differ is =
        let orders = (answers conn (heard_in (rest_ears conn) (rest_answer conn) m n) n.core.hub).1 in
        ap (λ (y : Rest H). is_some (end_at k y.channels)) (next_core conn m n is)
        ∙ ap (λ (o : Option ChannelState). is_some o) (others_obeyed conn k orders n.core.channels differ)
        ∙ some_obeyed (own k orders) (end_at k n.core.channels)

    there_all : (conn k : ℕ) (sent : List Sent) (n : NodeState (Rest H)) → (k == conn) ≡ false
        → is_some (end_at k (heard_all (rest_ears conn) (rest_answer conn) sent n).core.channels) ≡ is_some (end_at k n.core.channels)
    there_all conn k [] n differ = refl
    there_all conn k (m ∷ sent) n differ =
        there_all conn k sent (heard_next (rest_ears conn) (rest_answer conn) m n) differ ∙ there_by (deaf (rest_ears conn) (rest_answer conn) n) conn k m n differ refl

    -- ---- the end is taken out, and put back

    taken_out : (conn : ℕ) (firsts : ℕ → ℕ) (c : ChannelState) (r : Rest H) (t : Talk H) (e : MessageEnd) → end_at conn r.channels ≡ Some c → t.ends conn ≡ Some e
        → Stands Keeps Limits Brings firsts r t → Apart conn firsts (node_of (put_ends (with_end conn blank_end r.channels) r) c) t
    taken_out conn firsts c r t e there is s = record {
      hub = s.shows.hub;
      end = e;
      is = is;
      own_end = subst (λ (x : Option MessageEnd). ShowsEnd (firsts conn) (Some c) x) is
          (subst (λ (x : Option ChannelState). ShowsEnd (firsts conn) x (t.ends conn)) there (s.shows.ends conn));
      there = ap (λ (o : Option ChannelState). is_some o) (end_found conn blank_end r.channels (ap (λ (o : Option ChannelState). is_some o) there));
      other_ends = λ k differ.
          subst (λ (x : Option ChannelState). ShowsEnd (firsts k) x (t.ends k)) (sym (end_apart k conn blank_end r.channels (other_way k conn differ))) (s.shows.ends k);
      keeps = s.keeps;
      limit = subst (λ (x : Option ChannelState). LimitIn Limits x conn r.hub) there (s.limits conn);
      limits = λ k differ.
          subst (λ (x : Option ChannelState). LimitIn Limits x k r.hub) (sym (end_apart k conn blank_end r.channels (other_way k conn differ))) (s.limits k);
      brings = s.brings;
    }

    abbrev back : ℕ → NodeState (Rest H) → Rest H
    back conn n = put_back (rest_ears conn) (rest_answer conn) rest_ends put_ends conn n

    back_same : (conn : ℕ) (n : NodeState (Rest H)) → is_some (end_at conn n.core.channels) ≡ true → end_at conn (back conn n).channels ≡ Some n.channel
    back_same conn n there = end_found conn n.channel n.core.channels there

    back_apart : (conn k : ℕ) (n : NodeState (Rest H)) → (k == conn) ≡ false → end_at k (back conn n).channels ≡ end_at k n.core.channels
    back_apart conn k n differ = end_apart k conn n.channel n.core.channels (other_way k conn differ)

    back_shows : (b : Bool) (conn k : ℕ) (firsts : ℕ → ℕ) (n : NodeState (Rest H)) (t : Talk H) → (k == conn) ≡ b → Apart conn firsts n t
        → ShowsEnd (firsts k) (end_at k (back conn n).channels) (t.ends k) × LimitIn Limits (end_at k (back conn n).channels) k n.core.hub
    back_shows true conn k firsts n t same s =
        subst (λ (x : ℕ). ShowsEnd (firsts x) (end_at x (back conn n).channels) (t.ends x) × LimitIn Limits (end_at x (back conn n).channels) x n.core.hub) (sym (number_is k conn same)) (
          subst (λ (x : Option MessageEnd). ShowsEnd (firsts conn) (end_at conn (back conn n).channels) x) (sym s.is)
              (subst (λ (x : Option ChannelState). ShowsEnd (firsts conn) x (Some s.end)) (sym (back_same conn n s.there)) s.own_end),
          subst (λ (x : Option ChannelState). LimitIn Limits x conn n.core.hub) (sym (back_same conn n s.there)) s.limit,
        )
    back_shows false conn k firsts n t differ s = (
      subst (λ (x : Option ChannelState). ShowsEnd (firsts k) x (t.ends k)) (sym (back_apart conn k n differ)) (s.other_ends k differ),
      subst (λ (x : Option ChannelState). LimitIn Limits x k n.core.hub) (sym (back_apart conn k n differ)) (s.limits k differ),
    )

    put_again : (conn : ℕ) (firsts : ℕ → ℕ) (n : NodeState (Rest H)) (t : Talk H) → Apart conn firsts n t → Stands Keeps Limits Brings firsts (back conn n) t
    put_again conn firsts n t s = record {
      shows = record { hub = s.hub; ends = λ k. (back_shows (k == conn) conn k firsts n t refl s).0 };
      keeps = s.keeps;
      limits = λ k. (back_shows (k == conn) conn k firsts n t refl s).1;
      brings = s.brings;
    }

    -- ---- bytes that come on a connection

    abbrev pub taken_on : ℕ → List ℕ → Rest H → Rest H
    taken_on conn bytes r = taken_at (rest_ears conn) (rest_answer conn) rest_ends put_ends conn bytes r

    -- the bytes of a chain of messages come to a node that is shown as the messages do: it is shown then; nothing more is heard
    -- on the connection, or the number after all these is awaited; and the other ends await what they did
    pub record CameAll (conn next : ℕ) (firsts : ℕ → ℕ) (r after : Rest H) (t : Talk H) : Type 0 where
      pub stands : Stands Keeps Limits Brings firsts after t
      pub awaits : (is_deaf (ears conn after.hub) ≡ true) ⊎ ExpectsIn next (end_at conn after.channels)
      pub others : (k x : ℕ) → (k == conn) ≡ false → ExpectsIn x (end_at k r.channels) → ExpectsIn x (end_at k after.channels)
      pub there : (k : ℕ) → is_some (end_at k after.channels) ≡ is_some (end_at k r.channels)

    there_back : (b : Bool) (conn k : ℕ) (r : Rest H) (n : NodeState (Rest H)) → (k == conn) ≡ b → is_some (end_at conn r.channels) ≡ true
        → is_some (end_at conn n.core.channels) ≡ true → ((j : ℕ) → (j == conn) ≡ false → is_some (end_at j n.core.channels) ≡ is_some (end_at j r.channels))
        → is_some (end_at k (back conn n).channels) ≡ is_some (end_at k r.channels)
    there_back true conn k r n same before after others =
        subst (λ (x : ℕ). is_some (end_at x (back conn n).channels) ≡ is_some (end_at x r.channels)) (sym (number_is k conn same))
        (ap (λ (o : Option ChannelState). is_some o) (back_same conn n after) ∙ sym before)
    there_back false conn k r n differ before after others =
        ap (λ (o : Option ChannelState). is_some o) (back_apart conn k n differ) ∙ others k differ

    came_back : (conn next : ℕ) (firsts : ℕ → ℕ) (r : Rest H) (n : NodeState (Rest H)) (t : Talk H)
        → ((k x : ℕ) → (k == conn) ≡ false → ExpectsIn x (end_at k r.channels) → ExpectsIn x (end_at k n.core.channels))
        → is_some (end_at conn r.channels) ≡ true → ((j : ℕ) → (j == conn) ≡ false → is_some (end_at j n.core.channels) ≡ is_some (end_at j r.channels))
        → Came conn next firsts n t → CameAll conn next firsts r (back conn n) t
    came_back conn next firsts r n t others stood there came = record {
      stands = put_again conn firsts n t came.apart;
      awaits = elim came.awaits [
        | inl shut ↦ inl shut
        | inr x ↦ inr (subst (ExpectsIn next) (sym (back_same conn n came.apart.there)) x)
      ];
      others = λ k x differ awaits. subst (ExpectsIn x) (sym (back_apart conn k n differ)) (others k x differ awaits);
      there = λ k. there_back (k == conn) conn k r n refl stood came.apart.there there;
    }

    awaits_in : (conn first : ℕ) (c : ChannelState) (r : Rest H) → end_at conn r.channels ≡ Some c
        → (is_deaf (ears conn r.hub) ≡ true) ⊎ ExpectsIn first (end_at conn r.channels) → (is_deaf (ears conn r.hub) ≡ true) ⊎ Expects first c
    awaits_in conn first c r there (inl shut) = inl shut
    awaits_in conn first c r there (inr x) = inr (subst (ExpectsIn first) there x)

    hears_there : (conn first next : ℕ) (firsts : ℕ → ℕ) (sent : List Sent) (c : ChannelState) (r : Rest H) (t : Talk H) (e : MessageEnd) → AllComeFit Fits sent
        → Chain first sent next → end_at conn r.channels ≡ Some c → t.ends conn ≡ Some e → (is_deaf (ears conn r.hub) ≡ true) ⊎ ExpectsIn first (end_at conn r.channels)
        → Stands Keeps Limits Brings firsts r t
        → CameAll conn next firsts r (back conn (node_after (rest_ears conn) (rest_answer conn) (bytes_of sent) (node_of (put_ends (with_end conn blank_end r.channels) r) c)))
        (all_taken ears answers conn (map (λ (m : Sent). m.wire) sent) t)
    hears_there conn first next firsts sent c r t e fits chain there is awaits s =
        let n = node_of (put_ends (with_end conn blank_end r.channels) r) c in
        let ready = awaits_in conn first c r there awaits in
        let arrive = chains_arrive (rest_ears conn) (rest_answer conn) first next sent n (deafens_here conn) chain ready in
        subst (λ (x : NodeState (Rest H)). CameAll conn next firsts r (back conn x) (all_taken ears answers conn (map (λ (m : Sent). m.wire) sent) t))
        (sym (all_heard (rest_ears conn) (rest_answer conn) sent n (deafens_here conn) arrive))
        (came_back conn next firsts r (heard_all (rest_ears conn) (rest_answer conn) sent n) (all_taken ears answers conn (map (λ (m : Sent). m.wire) sent) t)
        (λ k x differ expects. expect_all conn k x sent n differ
        (subst (ExpectsIn x) (sym (end_apart k conn blank_end r.channels (other_way k conn differ))) expects))
        (ap (λ (o : Option ChannelState). is_some o) there)
        (λ j differ. there_all conn j sent n differ ∙ ap (λ (o : Option ChannelState). is_some o) (end_apart j conn blank_end r.channels (other_way j conn differ)))
        (chain_heard conn first next firsts sent n t fits chain ready (taken_out conn firsts c r t e there is s)))

    some_end : (first : ℕ) (c : ChannelState) (e : Option MessageEnd) → ShowsEnd first (Some c) e → (f : MessageEnd) × (e ≡ Some f)
    some_end first c None s = absurd s
    some_end first c (Some f) s = (f, refl)

    no_end : (first : ℕ) (e : Option MessageEnd) → ShowsEnd first None e → e ≡ None
    no_end first None s = refl
    no_end first (Some f) s = absurd s

    hears_by : (found : Option ChannelState) (conn first next : ℕ) (firsts : ℕ → ℕ) (sent : List Sent) (r : Rest H) (t : Talk H) → end_at conn r.channels ≡ found
        → AllComeFit Fits sent → Chain first sent next → (is_deaf (ears conn r.hub) ≡ true) ⊎ ExpectsIn first (end_at conn r.channels)
        → Stands Keeps Limits Brings firsts r t
        → CameAll conn next firsts r (taken_by (rest_ears conn) (rest_answer conn) rest_ends put_ends found conn (bytes_of sent) r)
        (all_taken ears answers conn (map (λ (m : Sent). m.wire) sent) t)
    hears_by None conn first next firsts sent r t there fits chain awaits s =
        let none = no_end (firsts conn) (t.ends conn) (subst (λ (x : Option ChannelState). ShowsEnd (firsts conn) x (t.ends conn)) there (s.shows.ends conn)) in
        subst (CameAll conn next firsts r r) (sym (none_taken ears answers conn (map (λ (m : Sent). m.wire) sent) t none))
        (record { stands = s; awaits = inr (subst (ExpectsIn next) (sym there) tt); others = λ k x differ expects. expects; there = λ k. refl })
    hears_by (Some c) conn first next firsts sent r t there fits chain awaits s =
        let some = some_end (firsts conn) c (t.ends conn) (subst (λ (x : Option ChannelState). ShowsEnd (firsts conn) x (t.ends conn)) there (s.shows.ends conn)) in
        hears_there conn first next firsts sent c r t some.0 fits chain there some.1 awaits s

    pub hears : (conn first next : ℕ) (firsts : ℕ → ℕ) (sent : List Sent) (r : Rest H) (t : Talk H)
        → AllComeFit Fits sent → Chain first sent next → (is_deaf (ears conn r.hub) ≡ true) ⊎ ExpectsIn first (end_at conn r.channels)
        → Stands Keeps Limits Brings firsts r t
        → CameAll conn next firsts r (taken_on conn (bytes_of sent) r) (all_taken ears answers conn (map (λ (m : Sent). m.wire) sent) t)
    hears conn first next firsts sent r t fits chain awaits s =
        hears_by (end_at conn r.channels) conn first next firsts sent r t refl fits chain awaits s
