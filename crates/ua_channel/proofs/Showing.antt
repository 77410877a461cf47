-- An end over messages shows the end over bytes.
use Rattle.std.proofs.Common.{◌≡◌, ◌⊎◌, ℕ, Bool, true, false, cond, List, [], ◌∷◌, ◌++◌, map, refl, sym, ap, subst, ◌∙◌, append_assoc, inl, inr}
use Rattle.std.proofs.lemmas.List.{append-nil}
use Rattle.ua_chunks.specs.Assembly.{Tokens, takes_number, tokens_of}
use Rattle.ua_chunks.specs.Framing.{IsBetween}
use Rattle.ua_chunks.specs.Sending.{IsSending, Sending}
use Rattle.ua_chunks.specs.Traffic.{renewed_tokens}
use Rattle.ua_chunks.proofs.Putting.{limits_send, put_sends, renewed_sends}
use Rattle.ua_channel.specs.declared.ear.Ear.{Ear}
use Rattle.ua_channel.specs.declared.heard.Heard.{Heard}
use Rattle.ua_channel.specs.declared.heard.Heard.TheVariants as said
use Rattle.ua_channel.specs.declared.wire.Order.{Order}
use Rattle.ua_channel.specs.declared.wire.Order.TheVariants as order
use Rattle.ua_channel.specs.State.{ChannelState, WireState, is_deaf, shut}
use Rattle.ua_channel.specs.Orders.{done, fits_in, obeyed, obeyed_all, put_on, renewed_for, undone}
use Rattle.ua_channel.specs.Messages.{MessageState, hearing_of, is_deaf_end, message_after, message_told, no_tokens, obeyed_message, obeyed_messages, settled_messages}
use Rattle.ua_channel.specs.Arriving.{AreLawful, Chain, Expects, Follows, IsLawfulOrder, IsSent, Sent, Mirrors, after_order, after_sent, bytes_of, heard_in, heard_next, past, sent_bytes}
use Rattle.ua_channel.specs.Node.{Deafens, NodeState, answered, deaf, settled, told}
use Rattle.ua_channel.proofs.Cutting.{settled_open, settled_shut, shut_node}
use Rattle.ua_channel.proofs.Coming.{hears_it, next_deaf, next_open, true_false}

-- ---- orders change nothing of what is awaited

expects_same : (next : ℕ) (c d : ChannelState) → d.framing ≡ c.framing → d.assembly.last ≡ c.assembly.last → d.assembly.chunks ≡ c.assembly.chunks → d.assembly.body ≡ c.assembly.body
    → d.assembly.fault ≡ c.assembly.fault → Expects next c → Expects next d
expects_same next c d f l n b e x = record {
  number = ap (takes_number next) l ∙ x.number;
  chunks = n ∙ x.chunks;
  body = b ∙ x.body;
  fault = e ∙ x.fault;
  between = subst IsBetween (sym f) x.between;
}

expects_by : (b : Bool) (o : Order) (next : ℕ) (c : ChannelState) → Expects next c → Expects next (cond b (done o c) (undone o c))
unfolding put_on
expects_by true (order.Put w) next c x = expects_same next c (put_on w c) refl refl refl refl refl x
expects_by true (order.Limit l) next c x = expects_same next c (done (order.Limit l) c) refl refl refl refl refl x
expects_by true (order.Renew channel token) next c x = expects_same next c (done (order.Renew channel token) c) refl refl refl refl refl x
expects_by false (order.Put w) next c x = expects_same next c (undone (order.Put w) c) refl refl refl refl refl x
expects_by false (order.Limit l) next c x = x
expects_by false (order.Renew channel token) next c x = x

expects_one : (o : Order) (next : ℕ) (c : ChannelState) → Expects next c → Expects next (obeyed o c)
expects_one o next c x = expects_by (fits_in o c.sending) o next c x

pub expects_obeyed : (os : List Order) (next : ℕ) (c : ChannelState) → Expects next c → Expects next (obeyed_all os c)
expects_obeyed [] next c x = x
expects_obeyed (o ∷ os) next c x = expects_obeyed os next (obeyed o c) (expects_one o next c x)

-- ---- what was put and not taken

pub record Puts (first : ℕ) (c : ChannelState) (out : List WireState) : Type 0 where
  pub sending : IsSending c.sending
  pub sent : List Sent
  pub wires : map (λ m. m.wire) sent ≡ out
  pub bytes : c.out ≡ bytes_of sent
  pub chain : Chain first sent c.sending.next

wires_more : (sent : List Sent) (m : Sent) → map (λ (x : Sent). x.wire) (sent ++ m ∷ []) ≡ map (λ (x : Sent). x.wire) sent ++ m.wire ∷ []
wires_more [] m = refl
wires_more (x ∷ sent) m = ap (λ (ws : List WireState). x.wire ∷ ws) (wires_more sent m)

bytes_more : (sent : List Sent) (m : Sent) → bytes_of (sent ++ m ∷ []) ≡ bytes_of sent ++ sent_bytes m
bytes_more [] m = append-nil (sent_bytes m)
bytes_more (x ∷ sent) m = ap (λ (l : List ℕ). sent_bytes x ++ l) (bytes_more sent m) ∙ sym (append_assoc (sent_bytes x) (bytes_of sent) (sent_bytes m))

chain_more : (first next : ℕ) (sent : List Sent) (m : Sent) → Chain first sent next → m.by.next ≡ next → IsSent m → Chain first (sent ++ m ∷ []) (after_sent m).next
chain_more first next [] m chain e is = (e ∙ sym chain, is, refl)
chain_more first next (x ∷ sent) m chain e is = (chain.0, chain.1, chain_more (after_sent x).next next sent m chain.2 e is)

puts_message : (first : ℕ) (w : WireState) (c : ChannelState) (out : List WireState) → IsLawfulOrder (order.Put w) c.sending → Puts first c out
    → Puts first (done (order.Put w) c) (out ++ w ∷ [])
unfolding put_on
puts_message first w c out lawful p =
    let by = renewed_for w c.sending in
    let m : Sent = record { wire = w; by = by } in
    let sends = renewed_sends w.channel w.token c.sending p.sending lawful.0 lawful.1 in
    record {
      sending = put_sends w.kind w.request w.body by sends;
      sent = p.sent ++ m ∷ [];
      wires = wires_more p.sent m ∙ ap (λ (ws : List WireState). ws ++ w ∷ []) p.wires;
      bytes = ap (λ (l : List ℕ). l ++ sent_bytes m) p.bytes ∙ sym (bytes_more p.sent m);
      chain = chain_more first c.sending.next p.sent m p.chain refl
          (record { sending = sends; channel = refl; token = refl; request = lawful.2; short = lawful.3; fits = lawful.4 });
    }

module _ {C : Type 0} where
  puts_done : (first : ℕ) (o : Order) (c : ChannelState) (k : MessageState C) → IsLawfulOrder o c.sending → Puts first c k.out
      → Puts first (done o c) (obeyed_message o k).out
  puts_done first (order.Put w) c k lawful p = puts_message first w c k.out lawful p
  puts_done first (order.Limit l) c k lawful p = record {
    sending = limits_send l.size l.max_message l.max_chunks c.sending p.sending lawful;
    sent = p.sent;
    wires = p.wires;
    bytes = p.bytes;
    chain = p.chain;
  }
  puts_done first (order.Renew channel token) c k lawful p = record { sending = p.sending; sent = p.sent; wires = p.wires; bytes = p.bytes; chain = p.chain }

-- what is lawful fits, and is done
lawful_fits : (o : Order) (s : Sending) → IsLawfulOrder o s → fits_in o s ≡ true
lawful_fits (order.Put w) s lawful = lawful.4
lawful_fits (order.Limit l) s lawful = refl
lawful_fits (order.Renew channel token) s lawful = refl

lawful_done : (o : Order) (c : ChannelState) → IsLawfulOrder o c.sending → obeyed o c ≡ done o c
lawful_done o c lawful = ap (λ b. cond b (done o c) (undone o c)) (lawful_fits o c.sending lawful)

lawful_after : (o : Order) (os : List Order) (c : ChannelState) → AreLawful os (after_order o c.sending) → AreLawful os (done o c).sending
unfolding put_on
lawful_after (order.Put w) os c lawful = lawful
lawful_after (order.Limit l) os c lawful = lawful
lawful_after (order.Renew channel token) os c lawful = lawful

tokens_put : (b : Bool) (w : WireState) (c : ChannelState) → tokens_of (cond b (done (order.Put w) c) (undone (order.Put w) c)).assembly ≡ tokens_of c.assembly
unfolding put_on
tokens_put true w c = refl
tokens_put false w c = refl

module _ {C : Type 0} where
  puts_all : (first : ℕ) (os : List Order) (c : ChannelState) (k : MessageState C) → AreLawful os c.sending → Puts first c k.out
      → Puts first (obeyed_all os c) (obeyed_messages os k).out
  puts_all first [] c k lawful p = p
  puts_all first (o ∷ os) c k lawful p =
      subst (λ (d : ChannelState). Puts first (obeyed_all os d) (obeyed_messages os (obeyed_message o k)).out) (sym (lawful_done o c lawful.0))
      (puts_all first os (done o c) (obeyed_message o k) (lawful_after o os c lawful.1) (puts_done first o c k lawful.0 p))

  core_one : (o : Order) (k : MessageState C) → (obeyed_message o k).core ≡ k.core
  core_one (order.Put w) k = refl
  core_one (order.Limit l) k = refl
  core_one (order.Renew channel token) k = refl

  core_kept : (os : List Order) (k : MessageState C) → (obeyed_messages os k).core ≡ k.core
  core_kept [] k = refl
  core_kept (o ∷ os) k = core_kept os (obeyed_message o k) ∙ core_one o k

  tokens_by : (o : Order) (c : ChannelState) (k : MessageState C) → tokens_of c.assembly ≡ k.tokens → tokens_of (obeyed o c).assembly ≡ (obeyed_message o k).tokens
  tokens_by (order.Put w) c k e = tokens_put (fits_in (order.Put w) c.sending) w c ∙ e
  tokens_by (order.Limit l) c k e = e
  tokens_by (order.Renew channel token) c k e = ap (renewed_tokens channel token) e

  tokens_all : (os : List Order) (c : ChannelState) (k : MessageState C) → tokens_of c.assembly ≡ k.tokens → tokens_of (obeyed_all os c).assembly ≡ (obeyed_messages os k).tokens
  tokens_all [] c k e = e
  tokens_all (o ∷ os) c k e = tokens_all os (obeyed o c) (obeyed_message o k) (tokens_by o c k e)

-- ---- what is told

module _ {C : Type 0} (ears : C → Ear) (answer : Heard → C → C × List Order) where
  told_shut : (h : Heard) (n : NodeState C) → is_deaf (ears (answer h n.core).0) ≡ true → told ears answer h n ≡ shut_node ears answer (answered ears answer h n)
  unfolding told
  told_shut h n e = settled_shut ears answer (answered ears answer h n) e

  told_open : (h : Heard) (n : NodeState C) → is_deaf (ears (answer h n.core).0) ≡ false → told ears answer h n ≡ answered ears answer h n
  unfolding told
  told_open h n e = settled_open ears answer (answered ears answer h n) e

  abbrev pub told_messages : Heard → C → Tokens → List WireState → MessageState C
  told_messages h core t out = obeyed_messages (answer h core).1 (record { core = (answer h core).0; tokens = t; out = out })

  message_settles : (b : Bool) (h : Heard) (core : C) (t : Tokens) (out : List WireState) → is_deaf (ears (answer h core).0) ≡ b
      → message_told ears answer h (record { core = core; tokens = t; out = out })
      ≡ cond b (record (told_messages h core t out) { tokens = no_tokens }) (told_messages h core t out)
  unfolding message_told
  message_settles b h core t out e =
      let k = told_messages h core t out in
      ap (λ b. cond b (record k { tokens = no_tokens }) k)
      (ap (λ (x : C). is_deaf (ears x)) (core_kept (answer h core).1 (record { core = (answer h core).0; tokens = t; out = out })) ∙ e)

  told_shows : (b : Bool) (first : ℕ) (h : Heard) (n : NodeState C) (t : Tokens) (out : List WireState) → AreLawful (answer h n.core).1 n.channel.sending → Puts first n.channel out
      → is_deaf (ears (answer h n.core).0) ≡ b → (b ≡ false → tokens_of n.channel.assembly ≡ t)
      → Mirrors first (told ears answer h n) (message_told ears answer h (record { core = n.core; tokens = t; out = out }))
  told_shows true first h n t out lawful puts e same =
      let os = (answer h n.core).1 in
      let k0 : MessageState C = record { core = (answer h n.core).0; tokens = t; out = out } in
      let p = puts_all first os n.channel k0 lawful puts in
      subst (λ x. Mirrors first x (message_told ears answer h (record { core = n.core; tokens = t; out = out }))) (sym (told_shut h n e))
      (subst (λ y. Mirrors first (shut_node ears answer (answered ears answer h n)) y) (sym (message_settles true h n.core t out e))
      (record { core = sym (core_kept os k0); tokens = refl; sending = p.sending; sent = p.sent; wires = p.wires; bytes = p.bytes; chain = p.chain }))
  told_shows false first h n t out lawful puts e same =
      let os = (answer h n.core).1 in
      let k0 : MessageState C = record { core = (answer h n.core).0; tokens = t; out = out } in
      let p = puts_all first os n.channel k0 lawful puts in
      subst (λ x. Mirrors first x (message_told ears answer h (record { core = n.core; tokens = t; out = out }))) (sym (told_open h n e))
      (subst (λ y. Mirrors first (answered ears answer h n) y) (sym (message_settles false h n.core t out e))
      (record { core = sym (core_kept os k0); tokens = tokens_all os n.channel k0 (same refl); sending = p.sending; sent = p.sent; wires = p.wires; bytes = p.bytes; chain = p.chain }))

  -- a fault is no message that goes on
  no_fault : (h : Heard) (core : C) → Deafens ears answer → is_deaf (ears (answer h core).0) ≡ false → (code : ℕ) → h ≡ said.Fault code → ⊥
  no_fault h core deafens e code same =
      true_false ears answer (is_deaf (ears (answer h core).0)) (ap (λ (x : Heard). is_deaf (ears (answer x core).0)) same ∙ deafens code core) e

  -- ---- the next number

  goes_by : (d : Bool) (m : Sent) (n : NodeState C) → deaf ears answer n ≡ false → Deafens ears answer → Follows m n.channel
      → is_deaf (ears (answer (heard_in ears answer m n) n.core).0) ≡ d
      → (deaf ears answer (heard_next ears answer m n) ≡ true) ⊎ Expects (after_sent m).next (heard_next ears answer m n).channel
  goes_by true m n e deafens follows d =
      let h = heard_in ears answer m n in
      let x = record n { channel = past m n.channel } in
      inl (ap (deaf ears answer) (next_open ears answer m n e ∙ told_shut h x d) ∙ d)
  goes_by false m n e deafens follows d =
      let h = heard_in ears answer m n in
      let x = record n { channel = past m n.channel } in
      elim (hears_it ears answer m n e deafens follows).outcome [
        | inl broken ↦ absurd (no_fault h n.core deafens d broken.0 broken.1)
        | inr goes ↦
            inr (subst (λ (k : NodeState C). Expects (after_sent m).next k.channel) (sym (next_open ears answer m n e ∙ told_open h x d))
            (expects_obeyed (answer h n.core).1 (after_sent m).next (past m n.channel) goes.expects))
      ]

  next_by : (b : Bool) (m : Sent) (n : NodeState C) → deaf ears answer n ≡ b → Deafens ears answer → Follows m n.channel
      → (deaf ears answer (heard_next ears answer m n) ≡ true) ⊎ Expects (after_sent m).next (heard_next ears answer m n).channel
  next_by true m n e deafens follows = inl (ap (deaf ears answer) (next_deaf ears answer m n e) ∙ e)
  next_by false m n e deafens follows = goes_by (is_deaf (ears (answer (heard_in ears answer m n) n.core).0)) m n e deafens follows refl

  pub next_number : (m : Sent) (n : NodeState C) → Deafens ears answer → Follows m n.channel
      → (deaf ears answer (heard_next ears answer m n) ≡ true) ⊎ Expects (after_sent m).next (heard_next ears answer m n).channel
  next_number m n deafens follows = next_by (deaf ears answer n) m n refl deafens follows

  -- ---- the next message

  message_deaf : (w : WireState) (k : MessageState C) → is_deaf_end ears answer k ≡ true → message_after ears answer w k ≡ k
  unfolding message_after
  message_deaf w k e =
      ap (λ b. cond b k (message_told ears answer (hearing_of (ears k.core) w k.tokens).heard (record k { tokens = (hearing_of (ears k.core) w k.tokens).tokens }))) e

  message_open : (w : WireState) (k : MessageState C) → is_deaf_end ears answer k ≡ false
      → message_after ears answer w k ≡ message_told ears answer (hearing_of (ears k.core) w k.tokens).heard (record k { tokens = (hearing_of (ears k.core) w k.tokens).tokens })
  unfolding message_after
  message_open w k e =
      ap (λ b. cond b k (message_told ears answer (hearing_of (ears k.core) w k.tokens).heard (record k { tokens = (hearing_of (ears k.core) w k.tokens).tokens }))) e

  shows_open : (first : ℕ) (m : Sent) (n : NodeState C) (out : List WireState) → deaf ears answer n ≡ false → Deafens ears answer → Follows m n.channel
      → AreLawful (answer (heard_in ears answer m n) n.core).1 n.channel.sending → Puts first n.channel out
      → Mirrors first (heard_next ears answer m n) (message_after ears answer m.wire (record { core = n.core; tokens = tokens_of n.channel.assembly; out = out }))
  shows_open first m n out e deafens follows lawful puts =
      let h = heard_in ears answer m n in
      let x = record n { channel = past m n.channel } in
      let k : MessageState C = record { core = n.core; tokens = tokens_of n.channel.assembly; out = out } in
      let t = (hearing_of (ears n.core) m.wire (tokens_of n.channel.assembly)).tokens in
      let p : Puts first x.channel out = record { sending = puts.sending; sent = puts.sent; wires = puts.wires; bytes = puts.bytes; chain = puts.chain } in
      subst (λ y. Mirrors first y (message_after ears answer m.wire k)) (sym (next_open ears answer m n e))
      (subst (λ z. Mirrors first (told ears answer h x) z) (sym (message_open m.wire k e))
      (told_shows (is_deaf (ears (answer h n.core).0)) first h x t out lawful p refl
      (λ d. elim (hears_it ears answer m n e deafens follows).outcome [
        | inl broken ↦ absurd (no_fault h n.core deafens d broken.0 broken.1)
        | inr goes ↦ goes.tokens
      ])))

  shows_by : (b : Bool) (first : ℕ) (m : Sent) (n : NodeState C) (k : MessageState C) → Deafens ears answer → deaf ears answer n ≡ b → (deaf ears answer n ≡ true) ⊎ Follows m n.channel
      → AreLawful (answer (heard_in ears answer m n) n.core).1 n.channel.sending → Mirrors first n k
      → Mirrors first (heard_next ears answer m n) (message_after ears answer m.wire k)
  shows_by true first m n k deafens e ready lawful s =
      subst (λ y. Mirrors first y (message_after ears answer m.wire k)) (sym (next_deaf ears answer m n e))
      (subst (λ z. Mirrors first n z) (sym (message_deaf m.wire k (ap (λ (x : C). is_deaf (ears x)) (sym s.core) ∙ e))) s)
  shows_by false first m n k deafens e (inl is) lawful s = absurd (true_false ears answer (deaf ears answer n) is e)
  shows_by false first m n k deafens e (inr follows) lawful s =
      let same : k ≡ record { core = n.core; tokens = tokens_of n.channel.assembly; out = k.out } =
      ap (λ (x : C). record { core = x; tokens = k.tokens; out = k.out }) (sym s.core)
      ∙ ap (λ (t : Tokens). record { core = n.core; tokens = t; out = k.out }) (sym s.tokens) in
      subst (λ z. Mirrors first (heard_next ears answer m n) (message_after ears answer m.wire z)) (sym same)
      (shows_open first m n k.out e deafens follows lawful (record { sending = s.sending; sent = s.sent; wires = s.wires; bytes = s.bytes; chain = s.chain }))

  pub shows_next : (first : ℕ) (m : Sent) (n : NodeState C) (k : MessageState C) → Deafens ears answer → (deaf ears answer n ≡ true) ⊎ Follows m n.channel
      → AreLawful (answer (heard_in ears answer m n) n.core).1 n.channel.sending → Mirrors first n k
      → Mirrors first (heard_next ears answer m n) (message_after ears answer m.wire k)
  shows_next first m n k deafens ready lawful s = shows_by (deaf ears answer n) first m n k deafens refl ready lawful s

  -- ---- orders and bytes taken

  pub shows_ordered : (first : ℕ) (os : List Order) (n : NodeState C) (k : MessageState C) → AreLawful os n.channel.sending → Mirrors first n k
      → Mirrors first (record n { channel = obeyed_all os n.channel }) (obeyed_messages os k)
  shows_ordered first os n k lawful s =
      let p = puts_all first os n.channel k lawful (record { sending = s.sending; sent = s.sent; wires = s.wires; bytes = s.bytes; chain = s.chain }) in
      record {
        core = s.core ∙ sym (core_kept os k);
        tokens = tokens_all os n.channel k s.tokens;
        sending = p.sending;
        sent = p.sent;
        wires = p.wires;
        bytes = p.bytes;
        chain = p.chain;
      }

  settled_by : (b : Bool) (first : ℕ) (n : NodeState C) (k : MessageState C) → Mirrors first n k
      → Mirrors first (cond b (record n { channel = shut n.channel }) n) (cond b (record k { tokens = no_tokens }) k)
  settled_by true first n k s = record { core = s.core; tokens = refl; sending = s.sending; sent = s.sent; wires = s.wires; bytes = s.bytes; chain = s.chain }
  settled_by false first n k s = s

  -- an end that is shut where it is deaf
  pub shows_settled : (first : ℕ) (n : NodeState C) (k : MessageState C) → Mirrors first n k → Mirrors first (settled ears answer n) (settled_messages ears answer k)
  shows_settled first n k s =
      subst (λ b. Mirrors first (settled ears answer n) (cond b (record k { tokens = no_tokens }) k)) (ap (λ (c : C). is_deaf (ears c)) s.core) (settled_by (deaf ears answer n) first n k s)

  pub shows_taken : (first : ℕ) (n : NodeState C) (k : MessageState C) → Mirrors first n k
      → Mirrors n.channel.sending.next (record n { channel = record n.channel { out = [] } }) (record k { out = [] })
  shows_taken first n k s = record { core = s.core; tokens = s.tokens; sending = s.sending; sent = []; wires = refl; bytes = refl; chain = refl }
