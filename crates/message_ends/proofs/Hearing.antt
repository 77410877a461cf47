-- Messages that come on a connection.
use Rattle.std.proofs.Common.{◌≡◌, ℕ, ◌==◌, Bool, true, false, cond, List, [], ◌∷◌, Option, Some, None, refl, sym, ap, subst, ◌∙◌, inr}
use Rattle.ua_chunks.specs.Assembly.{Tokens, tokens_of}
use Rattle.ua_channel.specs.declared.ear.Ear.{Ear}
use Rattle.ua_channel.specs.declared.heard.Heard.{Heard}
use Rattle.ua_channel.specs.declared.wire.Order.{Order}
use Rattle.ua_channel.specs.State.{WireState, is_deaf, shut}
use Rattle.ua_channel.specs.Orders as bytes
use Rattle.ua_channel.specs.Messages.{Judged, MessageState, hearing_of, message_after, message_told, no_tokens, settled_messages}
use Rattle.ua_channel.specs.Node.{Deafens, NodeState, answered, deaf, told}
use Rattle.ua_channel.specs.Arriving.{AreLawful, Follows, Mirrors, Sent, heard_in, heard_next}
use Rattle.ua_channel.specs.Sharing.{own}
use Rattle.ua_channel.proofs.Showing.{shows_next}
use Rattle.message_ends.specs.Ends.{MessageEnd, MessageEnds, obeyed_all, obeyed_by, set_end}
use Rattle.message_ends.specs.Talk.{Talk, heard_all as all_taken, heard_by, heard_one, judged, settled_by, told as told_talk}
use Rattle.message_ends.specs.Showing.{EndShows}
use Rattle.message_ends.proofs.Ordering.{same_messages, set_apart, set_same}

true_false : (b : Bool) → b ≡ true → b ≡ false → ⊥
true_false true t f = absurd cc
true_false false t f = absurd cc

-- ---- one end over bytes, and one over messages

module _ {C : Type 0} (ears : C → Ear) (answer : Heard → C → C × List Order) where
  told_is : (b : Bool) (h : Heard) (n : NodeState C) → is_deaf (ears (answer h n.core).0) ≡ b
      → told ears answer h n
      ≡ cond b (record (answered ears answer h n) { channel = shut (answered ears answer h n).channel }) (answered ears answer h n)
  unfolding told
  told_is b h n e = ap (λ x. cond x (record (answered ears answer h n) { channel = shut (answered ears answer h n).channel }) (answered ears answer h n)) e

  core_by : (b : Bool) (n : NodeState C) → (cond b (record n { channel = shut n.channel }) n).core ≡ n.core
  core_by true n = refl
  core_by false n = refl

  sending_by : (b : Bool) (n : NodeState C) → (cond b (record n { channel = shut n.channel }) n).channel.sending ≡ n.channel.sending
  sending_by true n = refl
  sending_by false n = refl

  pub told_core : (h : Heard) (n : NodeState C) → (told ears answer h n).core ≡ (answer h n.core).0
  told_core h n = let b = is_deaf (ears (answer h n.core).0) in
      ap (λ (x : NodeState C). x.core) (told_is b h n refl) ∙ core_by b (answered ears answer h n)

  pub told_sending : (h : Heard) (n : NodeState C) → (told ears answer h n).channel.sending ≡ (bytes.obeyed_all (answer h n.core).1 n.channel).sending
  told_sending h n = let b = is_deaf (ears (answer h n.core).0) in
      ap (λ (x : NodeState C). x.channel.sending) (told_is b h n refl) ∙ sending_by b (answered ears answer h n)

  -- what is heard of it, and what is obeyed then
  abbrev heard_as : WireState → C → Tokens → Judged
  heard_as w core t = hearing_of (ears core) w t

  abbrev end_then : Bool → List Order → MessageEnd → MessageEnd
  end_then b orders e = record { tokens = cond b no_tokens (obeyed_all orders e).tokens; out = (obeyed_all orders e).out }

  settled_as : (b : Bool) (core : C) (e : MessageEnd) → is_deaf (ears core) ≡ b
      → settled_messages ears answer (record { core = core; tokens = e.tokens; out = e.out })
      ≡ record { core = core; tokens = cond b no_tokens e.tokens; out = e.out }
  settled_as true core e is = ap (λ x. cond x (record { core = core; tokens = no_tokens; out = e.out }) (record { core = core; tokens = e.tokens; out = e.out })) is
  settled_as false core e is = ap (λ x. cond x (record { core = core; tokens = no_tokens; out = e.out }) (record { core = core; tokens = e.tokens; out = e.out })) is

  message_told_is : (b : Bool) (h : Heard) (core : C) (e : MessageEnd) → is_deaf (ears (answer h core).0) ≡ b
      → message_told ears answer h (record { core = core; tokens = e.tokens; out = e.out })
      ≡ record { core = (answer h core).0; tokens = (end_then b (answer h core).1 e).tokens; out = (end_then b (answer h core).1 e).out }
  unfolding message_told
  message_told_is b h core e is =
      ap (settled_messages ears answer) (same_messages (answer h core).1 (answer h core).0 e) ∙ settled_as b (answer h core).0 (obeyed_all (answer h core).1 e) is

  message_is : (b : Bool) (w : WireState) (core : C) (t : Tokens) (out : List WireState) → is_deaf (ears core) ≡ false
      → is_deaf (ears (answer (heard_as w core t).heard core).0) ≡ b
      → message_after ears answer w (record { core = core; tokens = t; out = out })
      ≡ record {
        core = (answer (heard_as w core t).heard core).0;
        tokens = (end_then b (answer (heard_as w core t).heard core).1 (record { tokens = (heard_as w core t).tokens; out = out })).tokens;
        out = (end_then b (answer (heard_as w core t).heard core).1 (record { tokens = (heard_as w core t).tokens; out = out })).out;
      }
  unfolding message_after
  message_is b w core t out hearing is =
      let j = heard_as w core t in
      ap (λ x. cond x (record { core = core; tokens = t; out = out }) (message_told ears answer j.heard (record { core = core; tokens = j.tokens; out = out }))) hearing
      ∙ message_told_is b j.heard core (record { tokens = j.tokens; out = out }) is

  -- the end is shown
  pub end_hears : (b : Bool) (first : ℕ) (m : Sent) (n : NodeState C) (out : List WireState) → Deafens ears answer → deaf ears answer n ≡ false
      → Follows m n.channel → AreLawful (answer (heard_in ears answer m n) n.core).1 n.channel.sending
      → is_deaf (ears (answer (heard_in ears answer m n) n.core).0) ≡ b
      → EndShows first n.channel (record { tokens = tokens_of n.channel.assembly; out = out })
      → EndShows first (heard_next ears answer m n).channel
      (end_then b (answer (heard_in ears answer m n) n.core).1 (record { tokens = (heard_as m.wire n.core (tokens_of n.channel.assembly)).tokens; out = out }))
  end_hears b first m n out deafens hearing follows lawful is s =
      let k : MessageState C = record { core = n.core; tokens = tokens_of n.channel.assembly; out = out } in
      let before : Mirrors first n k = record {
        core = refl;
        tokens = refl;
        sending = s.sending;
        sent = s.sent;
        wires = s.wires;
        bytes = s.bytes;
        chain = s.chain;
      } in
      let after = subst (Mirrors first (heard_next ears answer m n)) (message_is b m.wire n.core (tokens_of n.channel.assembly) out hearing is)
      (shows_next ears answer first m n k deafens (inr follows) lawful before) in
      record { tokens = after.tokens; sending = after.sending; sent = after.sent; wires = after.wires; bytes = after.bytes; chain = after.chain }

-- ---- a message that comes to a node over messages

module _ {H : Type 0} (ears : ℕ → H → Ear) (answers : ℕ → Heard → H → H × List (ℕ × Order)) where
  taken_open : (conn : ℕ) (w : WireState) (t : Talk H) (e : MessageEnd) → t.ends conn ≡ Some e → is_deaf (ears conn t.hub) ≡ false
      → heard_one ears answers conn w t ≡ judged ears answers conn (hearing_of (ears conn t.hub) w e.tokens) e t
  unfolding heard_one
  taken_open conn w t e is hearing =
      ap (λ (x : Option MessageEnd). heard_by ears answers x conn w t) is
      ∙ ap (λ b. cond b t (judged ears answers conn (hearing_of (ears conn t.hub) w e.tokens) e t)) hearing

  pub taken_deaf : (conn : ℕ) (w : WireState) (t : Talk H) (e : MessageEnd) → t.ends conn ≡ Some e → is_deaf (ears conn t.hub) ≡ true
      → heard_one ears answers conn w t ≡ t
  unfolding heard_one
  taken_deaf conn w t e is shut =
      ap (λ (x : Option MessageEnd). heard_by ears answers x conn w t) is
      ∙ ap (λ b. cond b t (judged ears answers conn (hearing_of (ears conn t.hub) w e.tokens) e t)) shut

  taken_none : (conn : ℕ) (w : WireState) (t : Talk H) → t.ends conn ≡ None → heard_one ears answers conn w t ≡ t
  unfolding heard_one
  taken_none conn w t is = ap (λ (x : Option MessageEnd). heard_by ears answers x conn w t) is

  pub none_taken : (conn : ℕ) (wires : List WireState) (t : Talk H) → t.ends conn ≡ None → all_taken ears answers conn wires t ≡ t
  none_taken conn [] t is = refl
  none_taken conn (w ∷ wires) t is = ap (all_taken ears answers conn wires) (taken_none conn w t is) ∙ none_taken conn wires t is

  -- what a message that is heard leaves of the hub and of each end
  pub record Leaves (conn : ℕ) (after : H) (orders : List (ℕ × Order)) (b : Bool) (e : MessageEnd) (former : MessageEnds) (t : Talk H) : Type 0 where
    pub hub : t.hub ≡ after
    pub own_end : t.ends conn ≡ Some (record { tokens = cond b no_tokens (obeyed_all (own conn orders) e).tokens; out = (obeyed_all (own conn orders) e).out })
    pub other_ends : (k : ℕ) → (k == conn) ≡ false → t.ends k ≡ obeyed_by (own k orders) (former k)

  leaves_by : (b : Bool) (conn : ℕ) (h : Heard) (e : MessageEnd) (t : Talk H) → is_deaf (ears conn (answers conn h t.hub).0) ≡ b
      → Leaves conn (answers conn h t.hub).0 (answers conn h t.hub).1 b e t.ends
      (let x = told_talk ears answers conn h (record t { ends = set_end conn (Some e) t.ends }) in
      cond b (record x { ends = set_end conn (settled_by ears answers (x.ends conn)) x.ends }) x)
  leaves_by true conn h e t is =
      let os = (answers conn h t.hub).1 in
      let x = told_talk ears answers conn h (record t { ends = set_end conn (Some e) t.ends }) in
      record {
        hub = refl;
        own_end = set_same conn (settled_by ears answers (x.ends conn)) x.ends
            ∙ ap (λ (o : Option MessageEnd). settled_by ears answers (obeyed_by (own conn os) o)) (set_same conn (Some e) t.ends);
        other_ends = λ k differ. set_apart conn k (settled_by ears answers (x.ends conn)) x.ends differ
            ∙ ap (obeyed_by (own k os)) (set_apart conn k (Some e) t.ends differ);
      }
  leaves_by false conn h e t is =
      let os = (answers conn h t.hub).1 in
      record {
        hub = refl;
        own_end = ap (obeyed_by (own conn os)) (set_same conn (Some e) t.ends);
        other_ends = λ k differ. ap (obeyed_by (own k os)) (set_apart conn k (Some e) t.ends differ);
      }

  leaves_judged : (b : Bool) (conn : ℕ) (j : Judged) (e : MessageEnd) (t : Talk H) → is_deaf (ears conn (answers conn j.heard t.hub).0) ≡ b
      → Leaves conn (answers conn j.heard t.hub).0 (answers conn j.heard t.hub).1 b (record e { tokens = j.tokens }) t.ends (judged ears answers conn j e t)
  leaves_judged b conn j e t is =
      let x = told_talk ears answers conn j.heard (record t { ends = set_end conn (Some (record e { tokens = j.tokens })) t.ends }) in
      subst (λ (y : Talk H). Leaves conn (answers conn j.heard t.hub).0 (answers conn j.heard t.hub).1 b (record e { tokens = j.tokens }) t.ends y)
      (ap (λ z. cond z (record x { ends = set_end conn (settled_by ears answers (x.ends conn)) x.ends }) x) (sym is))
      (leaves_by b conn j.heard (record e { tokens = j.tokens }) t is)

  pub leaves : (b : Bool) (conn : ℕ) (w : WireState) (e : MessageEnd) (t : Talk H) → t.ends conn ≡ Some e → is_deaf (ears conn t.hub) ≡ false
      → is_deaf (ears conn (answers conn (hearing_of (ears conn t.hub) w e.tokens).heard t.hub).0) ≡ b
      → let j = hearing_of (ears conn t.hub) w e.tokens in
      Leaves conn (answers conn j.heard t.hub).0 (answers conn j.heard t.hub).1 b (record e { tokens = j.tokens }) t.ends (heard_one ears answers conn w t)
  leaves b conn w e t there hearing is =
      let j = hearing_of (ears conn t.hub) w e.tokens in
      subst (λ (y : Talk H). Leaves conn (answers conn j.heard t.hub).0 (answers conn j.heard t.hub).1 b (record e { tokens = j.tokens }) t.ends y)
      (sym (taken_open conn w t e there hearing)) (leaves_judged b conn j e t is)
