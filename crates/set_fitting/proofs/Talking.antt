-- A hub behind its ends over messages: what it keeps to, and that what its ends hold comes as it should.
use Rattle.std.proofs.Common.{◌≡◌, ℕ, ◌==◌, Bool, true, false, cond, List, [], ◌∷◌, ◌++◌, Option, Some, None, refl, subst}
use Rattle.ua_chunks.specs.Assembly.{Tokens}
use Rattle.ua_channel.specs.declared.ear.Ear.{Ear}
use Rattle.ua_channel.specs.declared.heard.Heard.{Heard}
use Rattle.ua_channel.specs.declared.wire.Order.{Order}
use Rattle.ua_channel.specs.State.{WireState, is_deaf}
use Rattle.ua_channel.specs.Messages.{hearing_of}
use Rattle.message_ends.specs.Ends.{MessageEnd, MessageEnds, emptied_by, obeyed_each, out_by, set_end}
use Rattle.message_ends.specs.Talk.{Talk, heard_all, heard_by, heard_one, judged, settled, settled_by, told, without_out}
use Rattle.message_ends.specs.Showing.{AllBring, OrdersBring}
use Rattle.message_ends.proofs.Ordering.{bring_each}

-- ---- ends

module _ (Brings : WireState → Type 0) where
  abbrev pub EndBrings : Option MessageEnd → Type 0
  EndBrings o = AllBring Brings (out_by o)

  pub set_brings : (conn k : ℕ) (o : Option MessageEnd) (ends : MessageEnds) → EndBrings o → EndBrings (ends k) → EndBrings (set_end conn o ends k)
  set_brings conn k o ends own other = by_test (k == conn)
    where
      by_test : (b : Bool) → EndBrings (cond b o (ends k))
      by_test true = own
      by_test false = other

  pub cut_brings : (b : Bool) (conn k : ℕ) (o : Option MessageEnd) (ends : MessageEnds) → EndBrings o → EndBrings (ends k)
      → EndBrings ((cond b ends (set_end conn o ends)) k)
  cut_brings true conn k o ends own other = other
  cut_brings false conn k o ends own other = set_brings conn k o ends own other

  pub join_brings : (wires more : List WireState) → AllBring Brings wires → AllBring Brings more → AllBring Brings (wires ++ more)
  join_brings [] more one other = other
  join_brings (w ∷ wires) more one other = (one.0, join_brings wires more one.1 other)

  pub emptied_brings : (o : Option MessageEnd) → EndBrings (emptied_by o)
  emptied_brings None = tt
  emptied_brings (Some e) = tt

-- ---- a hub

module _ {H : Type 0} (Keeps : H → Type 0) (Brings : WireState → Type 0) where
  pub record TalkKeeps (t : Talk H) : Type 0 where
    pub hub : Keeps t.hub
    pub puts : (k : ℕ) → AllBring Brings (out_by (t.ends k))

  -- it did something, and its ends obeyed
  pub obeyed : (orders : List (ℕ × Order)) (after : H) (ends : MessageEnds) → Keeps after → OrdersBring Brings orders → ((k : ℕ) → EndBrings Brings (ends k))
      → TalkKeeps (record { hub = after; ends = obeyed_each orders ends })
  obeyed orders after ends keeps brings puts = record { hub = keeps; puts = λ k. bring_each Brings k orders (ends k) brings (puts k) }

  pub emptied : (conn : ℕ) (t : Talk H) → TalkKeeps t → TalkKeeps (without_out conn t)
  emptied conn t x = record { hub = x.hub; puts = λ k. set_brings Brings conn k (emptied_by (t.ends conn)) t.ends (emptied_brings Brings (t.ends conn)) (x.puts k) }

-- ---- what it hears

module _ {H : Type 0} (ears : ℕ → H → Ear) (answers : ℕ → Heard → H → H × List (ℕ × Order))
    (Keeps : H → Type 0) (Fits : Heard → Type 0) (Brings : WireState → Type 0)
    (keeps : (conn : ℕ) (h : Heard) (hub : H) → Keeps hub → Fits h → Keeps (answers conn h hub).0)
    (brings : (conn : ℕ) (h : Heard) (hub : H) → Keeps hub → Fits h → OrdersBring Brings (answers conn h hub).1) where
  pub settled_brings : (o : Option MessageEnd) → EndBrings Brings o → EndBrings Brings (settled_by ears answers o)
  settled_brings None x = x
  settled_brings (Some e) x = x

  settled_keeps : (conn : ℕ) (t : Talk H) → TalkKeeps Keeps Brings t → TalkKeeps Keeps Brings (settled ears answers conn t)
  settled_keeps conn t x = by_test (is_deaf (ears conn t.hub))
    where
      by_test : (b : Bool) → TalkKeeps Keeps Brings (cond b (record t { ends = set_end conn (settled_by ears answers (t.ends conn)) t.ends }) t)
      by_test true = record {
        hub = x.hub;
        puts = λ k. set_brings Brings conn k (settled_by ears answers (t.ends conn)) t.ends (settled_brings (t.ends conn) (x.puts conn)) (x.puts k);
      }
      by_test false = x

  told_keeps : (conn : ℕ) (h : Heard) (t : Talk H) → Fits h → TalkKeeps Keeps Brings t → TalkKeeps Keeps Brings (told ears answers conn h t)
  told_keeps conn h t fits x = obeyed Keeps Brings (answers conn h t.hub).1 (answers conn h t.hub).0 t.ends (keeps conn h t.hub x.hub fits) (brings conn h t.hub x.hub fits) x.puts

  -- of this message whatever is heard fits
  abbrev pub AllFit : WireState → Type 0
  AllFit w = (e : Ear) (tokens : Tokens) → Fits (hearing_of e w tokens).heard

  by_end : (o : Option MessageEnd) (conn : ℕ) (w : WireState) (t : Talk H) → t.ends conn ≡ o → AllFit w → TalkKeeps Keeps Brings t
      → TalkKeeps Keeps Brings (heard_by ears answers o conn w t)
  by_end None conn w t is fits x = x
  by_end (Some e) conn w t is fits x = by_test (is_deaf (ears conn t.hub))
    where
      by_test : (b : Bool) → TalkKeeps Keeps Brings (cond b t (judged ears answers conn (hearing_of (ears conn t.hub) w e.tokens) e t))
      by_test true = x
      by_test false =
          let j = hearing_of (ears conn t.hub) w e.tokens in
          let before : Talk H = record t { ends = set_end conn (Some (record e { tokens = j.tokens })) t.ends } in
          let own : EndBrings Brings (Some e) = subst (λ (o : Option MessageEnd). EndBrings Brings o) is (x.puts conn) in
          settled_keeps conn (told ears answers conn j.heard before)
          (told_keeps conn j.heard before (fits (ears conn t.hub) e.tokens)
          (record { hub = x.hub; puts = λ k. set_brings Brings conn k (Some (record e { tokens = j.tokens })) t.ends own (x.puts k) }))

  pub one_keeps : (conn : ℕ) (w : WireState) (t : Talk H) → AllFit w → TalkKeeps Keeps Brings t → TalkKeeps Keeps Brings (heard_one ears answers conn w t)
  unfolding heard_one
  one_keeps conn w t fits x = by_end (t.ends conn) conn w t refl fits x

  pub all_keep : (conn : ℕ) (wires : List WireState) (t : Talk H) → AllBring AllFit wires → TalkKeeps Keeps Brings t
      → TalkKeeps Keeps Brings (heard_all ears answers conn wires t)
  all_keep conn [] t fits x = x
  all_keep conn (w ∷ wires) t fits x = all_keep conn wires (heard_one ears answers conn w t) fits.1 (one_keeps conn w t fits.0 x)
