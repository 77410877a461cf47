-- One server of a set: over bytes it is shown by what it is over messages.
use Rattle.std.proofs.Common.{◌≡◌, inl, inr, ℕ, ◌+◌, ◌-◌, ◌^◌, ◌==◌, ◌&&◌, min, Bool, true, false, cond, List, [], ◌∷◌, ◌++◌, map, Option, Some, None, is_some, refl, sym, ap, ap₂, subst, ◌∙◌}
use Rattle.std.proofs.lemmas.List.{append-nil}
use Rattle.std.specs.List.{AllByRecursion}
use Rattle.set_model.specs.declared.source.Change.{Change}
use Rattle.ua_channel.specs.State.{ChannelState, WireState, is_deaf}
use Rattle.ua_channel.specs.Arriving.{Sent, bytes_of}
use Rattle.ua_channel.specs.Sharing.{end_at, out_by as bytes_out, own}
use Rattle.ua_channel.specs.declared.ear.Ear.{Ear}
use Rattle.ua_channel.specs.declared.heard.Heard.{Heard}
use Rattle.ua_channel.specs.declared.wire.Order.{Order}
use Rattle.ua_channel.specs.Messages.{hearing_of}
use Rattle.message_ends.specs.Ends.{MessageEnd, emptied_by, new_end, obeyed_by, out_by, set_end}
use Rattle.message_ends.specs.Talk.{Talk, heard_all, heard_one, out_of, without_out}
use Rattle.message_ends.specs.Showing.{ExpectsIn, ShowsEnd, firsts_with, next_in}
use Rattle.message_ends.proofs.Hearing.{leaves, none_taken, taken_deaf}
use Rattle.message_ends.proofs.Lookups.{number_is, same_number}
use Rattle.message_ends.proofs.Ordering.{set_apart, set_same}
use Rattle.server_rules.specs.Said.{orders_of}
use Rattle.server_rules.specs.Connecting.{is_above}
use Rattle.server_rules.specs.State.{ServerState}
use Rattle.server_rules.specs.Step.{Closes, Opens, after, ears}
use Rattle.server_keeps.specs.Fitting.{FitsChange}
use Rattle.ua_server.specs.declared.event.ServerEvent.TheVariants as served_event
use Rattle.ua_server.specs.State as server
use Rattle.ua_server.specs.Step as serving
use Rattle.server_messages.specs.Fitting.{Brings as ServerBrings}
use Rattle.server_messages.specs.Messages as server_messages
use Rattle.server_messages.specs.Showing.{Awaits, ServerStands}
use Rattle.client_messages.specs.Showing.{Brings as ClientBrings}
use Rattle.set_rules.specs.State.{Connection, Slot}
use Rattle.set_rules.specs.Moves.{is_left_by}
use Rattle.set_rules.specs.Slots.{accepted, fed_all, happens, new_slot, parted, served, started, stopped}
use Rattle.set_world.specs.Bytes as bytes
use Rattle.set_messages.specs.Nodes.{Server, nodes}
use Rattle.set_messages.proofs.Flights.{Flight, awaited, each_fits, longer, no_flight}
use Rattle.set_messages.proofs.Facts.{IsEvent, ServerLaws}

abbrev pub MessageSlot : Type 0
MessageSlot = Slot Server (List WireState)

-- the client's part: what its link expects, that its connection stands, and the number that follows all it put in flight
module _ (Expects : ℕ → Type 0) (Held : Type 0) (last : ℕ) where
  pub record ConnShows (firsts : ℕ → ℕ) (r : server.BytesState) (c : Connection (List ℕ)) (d : Connection (List WireState)) : Type 0 where
    pub number : c.number ≡ d.number
    pub back : Flight ServerBrings Expects (firsts c.number) c.back d.back
    pub there : Flight ClientBrings (λ n. Awaits c.number n r) last c.there d.there
    pub holds : Held

  -- a life to which nobody is connected
  pub record Serves (r : server.BytesState) (t : Server) : Type 0 where
    pub firsts : ℕ → ℕ
    pub stands : ServerStands firsts r t
    pub none : (k : ℕ) → t.ends k ≡ None

  -- one with the connection of the client
  pub record ServesOn (r : server.BytesState) (t : Server) (c : Connection (List ℕ)) (d : Connection (List WireState)) : Type 0 where
    pub firsts : ℕ → ℕ
    pub stands : ServerStands firsts r t
    pub only : (k : ℕ) → (k == c.number) ≡ false → t.ends k ≡ None
    pub conn : ConnShows firsts r c d

  abbrev pub ShownLife : server.BytesState → Server → Option (Connection (List ℕ)) → Option (Connection (List WireState)) → Type 0
  ShownLife r t None None = Serves r t
  ShownLife r t None (Some d) = ⊥
  ShownLife r t (Some c) None = ⊥
  ShownLife r t (Some c) (Some d) = ServesOn r t c d

  abbrev pub NoConnection : Option (Connection (List ℕ)) → Option (Connection (List WireState)) → Type 0
  NoConnection None None = Unit {0}
  NoConnection None (Some d) = ⊥
  NoConnection (Some c) other = ⊥

  abbrev pub Shown : Option server.BytesState → Option Server → Option (Connection (List ℕ)) → Option (Connection (List WireState)) → Type 0
  Shown None None c d = NoConnection c d
  Shown None (Some t) c d = ⊥
  Shown (Some r) None c d = ⊥
  Shown (Some r) (Some t) c d = ShownLife r t c d

  pub record SlotShows (s : bytes.ByteSlot) (z : MessageSlot) : Type 0 where
    pub boot : s.boot ≡ z.boot
    pub position : s.position ≡ z.position
    pub held : s.held ≡ z.held
    pub given : s.given ≡ z.given
    pub shown : Shown s.life z.life s.connection z.connection

-- ---- where the client's part changes

pub conn_changes : (E F : ℕ → Type 0) (H I : Type 0) (last : ℕ) (firsts : ℕ → ℕ) (r : server.BytesState) (c : Connection (List ℕ)) (d : Connection (List WireState))
    → (H → I) → (H → (n : ℕ) → E n → F n) → ConnShows E H last firsts r c d → ConnShows F I last firsts r c d
conn_changes E F H I last firsts r c d holds expects s = record {
  number = s.number;
  back = awaited ServerBrings E F (firsts c.number) c.back d.back (expects s.holds) s.back;
  there = s.there;
  holds = holds s.holds;
}

pub shown_changes : (E F : ℕ → Type 0) (H I : Type 0) (last : ℕ) (life : Option server.BytesState) (talk : Option Server)
    (c : Option (Connection (List ℕ))) (d : Option (Connection (List WireState)))
    → (H → I) → (H → (n : ℕ) → E n → F n) → Shown E H last life talk c d → Shown F I last life talk c d
shown_changes E F H I last None None None None holds expects s = tt
shown_changes E F H I last None None None (Some d) holds expects s = s
shown_changes E F H I last None None (Some c) d holds expects s = s
shown_changes E F H I last None (Some t) c d holds expects s = s
shown_changes E F H I last (Some r) None c d holds expects s = s
shown_changes E F H I last (Some r) (Some t) None None holds expects s = record { firsts = s.firsts; stands = s.stands; none = s.none }
shown_changes E F H I last (Some r) (Some t) None (Some d) holds expects s = s
shown_changes E F H I last (Some r) (Some t) (Some c) None holds expects s = s
shown_changes E F H I last (Some r) (Some t) (Some c) (Some d) holds expects s = record {
  firsts = s.firsts;
  stands = s.stands;
  only = s.only;
  conn = conn_changes E F H I last s.firsts r c d holds expects s.conn;
}

-- without a connection the client has no part in it
pub shown_alone : (E F : ℕ → Type 0) (H I : Type 0) (last other : ℕ) (life : Option server.BytesState) (talk : Option Server)
    (c : Option (Connection (List ℕ))) (d : Option (Connection (List WireState)))
    → c ≡ None → Shown E H last life talk c d → Shown F I other life talk c d
shown_alone E F H I last other None None None None none s = tt
shown_alone E F H I last other None None None (Some d) none s = s
shown_alone E F H I last other None None (Some c) d none s = s
shown_alone E F H I last other None (Some t) c d none s = s
shown_alone E F H I last other (Some r) None c d none s = s
shown_alone E F H I last other (Some r) (Some t) None None none s = record { firsts = s.firsts; stands = s.stands; none = s.none }
shown_alone E F H I last other (Some r) (Some t) None (Some d) none s = s
shown_alone E F H I last other (Some r) (Some t) (Some c) d none s = absurd cc

pub slot_changes : (E F : ℕ → Type 0) (H I : Type 0) (last : ℕ) (s : bytes.ByteSlot) (z : MessageSlot) → (H → I) → (H → (n : ℕ) → E n → F n)
    → SlotShows E H last s z → SlotShows F I last s z
slot_changes E F H I last s z holds expects x = record {
  boot = x.boot;
  position = x.position;
  held = x.held;
  given = x.given;
  shown = shown_changes E F H I last s.life z.life s.connection z.connection holds expects x.shown;
}

pub slot_alone : (E F : ℕ → Type 0) (H I : Type 0) (last other : ℕ) (s : bytes.ByteSlot) (z : MessageSlot) → s.connection ≡ None
    → SlotShows E H last s z → SlotShows F I other s z
slot_alone E F H I last other s z none x = record {
  boot = x.boot;
  position = x.position;
  held = x.held;
  given = x.given;
  shown = shown_alone E F H I last other s.life z.life s.connection z.connection none x.shown;
}

-- ---- ends that aren't there

no_end : (first : ℕ) (o : Option ChannelState) (e : Option MessageEnd) → ShowsEnd first o e → e ≡ None → o ≡ None
no_end first None e s none = refl
no_end first (Some c) None s none = absurd s
no_end first (Some c) (Some e) s none = absurd cc

no_message_end : (first : ℕ) (o : Option ChannelState) (e : Option MessageEnd) → ShowsEnd first o e → o ≡ None → e ≡ None
no_message_end first o None s none = refl
no_message_end first None (Some e) s none = absurd s
no_message_end first (Some c) (Some e) s none = absurd cc

-- where an end isn't there its first number doesn't matter
refirst_by : (b : Bool) (f g : ℕ → ℕ) (conn k : ℕ) (o : Option ChannelState) (e : Option MessageEnd) → (k == conn) ≡ b → (b ≡ true → o ≡ None) → (b ≡ false → f k ≡ g k)
    → ShowsEnd (f k) o e → ShowsEnd (g k) o e
refirst_by true f g conn k o e is none same s = anywhere (f k) (g k) o e (none refl) s
  where
    anywhere : (m n : ℕ) (o : Option ChannelState) (e : Option MessageEnd) → o ≡ None → ShowsEnd m o e → ShowsEnd n o e
    anywhere m n None None none s = tt
    anywhere m n None (Some e) none s = s
    anywhere m n (Some c) e none s = absurd cc
refirst_by false f g conn k o e is none same s = subst (λ n. ShowsEnd n o e) (same refl) s

refirst : (f g : ℕ → ℕ) (conn : ℕ) (r : server.BytesState) (t : Server) → end_at conn r.channels ≡ None → ((k : ℕ) → (k == conn) ≡ false → f k ≡ g k)
    → ServerStands f r t → ServerStands g r t
refirst f g conn r t none same s = record {
  stands = record {
    shows = record {
      hub = s.stands.shows.hub;
      ends = λ k. refirst_by (k == conn) f g conn k (end_at k r.channels) (t.ends k) refl
          (λ is. ap (λ n. end_at n r.channels) (number_is k conn is) ∙ none) (λ differ. same k differ) (s.stands.shows.ends k);
    };
    keeps = s.stands.keeps;
    limits = s.stands.limits;
    brings = s.stands.brings;
  };
  matches = s.matches;
}

-- ---- what the life puts is in flight

module _ (laws : ServerLaws) (E : ℕ → Type 0) (H : Type 0) (last : ℕ) where
  awaits_still : (conn other n : ℕ) (r : server.BytesState) → Awaits other n r → Awaits other n (server.without_out conn r)
  awaits_still conn other n r (inl deaf) = inl deaf
  awaits_still conn other n r (inr x) = inr (laws.still conn other n r x)

  only_still : (number : ℕ) (t : Server) → ((k : ℕ) → (k == number) ≡ false → t.ends k ≡ None) → (k : ℕ) → (k == number) ≡ false → (without_out number t).ends k ≡ None
  only_still number t only k differ = set_apart number k (emptied_by (t.ends number)) t.ends differ ∙ only k differ

  first_now : (number next : ℕ) (firsts : ℕ → ℕ) → firsts_with number next firsts number ≡ next
  first_now number next firsts = ap (λ b. cond b next (firsts number)) (same_number number)

  first_other : (number next k : ℕ) (firsts : ℕ → ℕ) → (k == number) ≡ false → firsts_with number next firsts k ≡ firsts k
  first_other number next k firsts differ = ap (λ b. cond b next (firsts k)) differ

  abbrev collected_conn : server.BytesState → Connection (List ℕ) → Connection (List ℕ)
  collected_conn r c = record c { back = c.back ++ server.out_of c.number r }

  abbrev collected_messages : ℕ → Server → Connection (List WireState) → Connection (List WireState)
  collected_messages number t d = record d { back = d.back ++ out_of number t }

  collect_by : (found : Option ChannelState) (r : server.BytesState) (t : Server) (c : Connection (List ℕ)) (d : Connection (List WireState))
      → end_at c.number r.channels ≡ found → ServesOn E H last r t c d
      → ServesOn E H last (server.without_out c.number r) (without_out c.number t) (collected_conn r c) (collected_messages c.number t d)
  collect_by (Some e) r t c d is s =
      let n = c.number in
      let more = laws.put s.firsts n e r t is s.stands in
      let next : next_in (end_at n r.channels) ≡ e.sending.next = ap next_in is in
      record {
        firsts = firsts_with n (next_in (end_at n r.channels)) s.firsts;
        stands = laws.taken s.firsts n r t s.stands;
        only = only_still n t s.only;
        conn = record {
          number = s.conn.number;
          back = subst (λ k. Flight ServerBrings E k (c.back ++ server.out_of n r) (d.back ++ out_of n t))
              (sym (first_now n (next_in (end_at n r.channels)) s.firsts ∙ next))
              (longer ServerBrings E (s.firsts n) e.sending.next c.back (server.out_of n r) d.back (out_of n t) s.conn.back more);
          there = awaited ClientBrings (λ k. Awaits n k r) (λ k. Awaits n k (server.without_out n r)) last c.there d.there (λ k x. awaits_still n n k r x) s.conn.there;
          holds = s.conn.holds;
        };
      }
  collect_by None r t c d is s =
      let n = c.number in
      let nothing : server.out_of n r ≡ [] = ap bytes_out is in
      let none : t.ends n ≡ None = no_message_end (s.firsts n) (end_at n r.channels) (t.ends n) (s.stands.stands.shows.ends n) is in
      let nobody : out_of n t ≡ [] = ap out_by none in
      record {
        firsts = s.firsts;
        stands = refirst (firsts_with n (next_in (end_at n r.channels)) s.firsts) s.firsts n (server.without_out n r) (without_out n t)
            (no_end 0 (end_at n (server.without_out n r).channels) ((without_out n t).ends n)
            (anywhere (laws.taken s.firsts n r t s.stands))
            (set_same n (emptied_by (t.ends n)) t.ends ∙ ap emptied_by none))
            (λ k differ. first_other n (next_in (end_at n r.channels)) k s.firsts differ)
            (laws.taken s.firsts n r t s.stands);
        only = only_still n t s.only;
        conn = record {
          number = s.conn.number;
          back = subst (λ (x : List ℕ). Flight ServerBrings E (s.firsts n) x (d.back ++ out_of n t)) (sym (ap (λ (x : List ℕ). c.back ++ x) nothing ∙ append-nil c.back))
              (subst (λ (x : List WireState). Flight ServerBrings E (s.firsts n) c.back x) (sym (ap (λ (x : List WireState). d.back ++ x) nobody ∙ append-nil d.back)) s.conn.back);
          there = awaited ClientBrings (λ k. Awaits n k r) (λ k. Awaits n k (server.without_out n r)) last c.there d.there (λ k x. awaits_still n n k r x) s.conn.there;
          holds = s.conn.holds;
        };
      }
    where
      nowhere : (m : ℕ) (o : Option ChannelState) (e : Option MessageEnd) → e ≡ None → ShowsEnd m o e → ShowsEnd 0 o e
      nowhere m None None none s = tt
      nowhere m (Some c) None none s = s
      nowhere m o (Some e) none s = absurd cc

      anywhere : ServerStands (firsts_with c.number (next_in (end_at c.number r.channels)) s.firsts) (server.without_out c.number r) (without_out c.number t)
          → ShowsEnd 0 (end_at c.number (server.without_out c.number r).channels) ((without_out c.number t).ends c.number)
      anywhere x =
          nowhere (firsts_with c.number (next_in (end_at c.number r.channels)) s.firsts c.number) (end_at c.number (server.without_out c.number r).channels)
          ((without_out c.number t).ends c.number)
          (set_same c.number (emptied_by (t.ends c.number)) t.ends
          ∙ ap emptied_by (no_message_end (s.firsts c.number) (end_at c.number r.channels) (t.ends c.number) (s.stands.stands.shows.ends c.number) is))
          (x.stands.shows.ends c.number)

  pub collect : (r : server.BytesState) (t : Server) (c : Connection (List ℕ)) (d : Connection (List WireState)) → ServesOn E H last r t c d
      → ServesOn E H last (server.without_out c.number r) (without_out d.number t) (collected_conn r c) (collected_messages d.number t d)
  collect r t c d s =
      subst (λ n. ServesOn E H last (server.without_out c.number r) (without_out n t) (collected_conn r c) (collected_messages n t d)) s.conn.number
      (collect_by (end_at c.number r.channels) r t c d refl s)

-- ---- ends that are nowhere stay so

module _ {H : Type 0} (ears : ℕ → H → Ear) (answers : ℕ → Heard → H → H × List (ℕ × Order)) where
  none_at : (b : Bool) (conn k : ℕ) (w : WireState) (t : Talk H) (e : MessageEnd) → t.ends conn ≡ Some e → (k == conn) ≡ false → is_deaf (ears conn t.hub) ≡ b
      → t.ends k ≡ None → (heard_one ears answers conn w t).ends k ≡ None
  none_at true conn k w t e is differ deaf none = ap (λ (x : Talk H). x.ends k) (taken_deaf ears answers conn w t e is deaf) ∙ none
  none_at false conn k w t e is differ hears none =
      let j = hearing_of (ears conn t.hub) w e.tokens in
      let left = leaves ears answers (is_deaf (ears conn (answers conn j.heard t.hub).0)) conn w e t is hears refl in
      left.other_ends k differ ∙ ap (obeyed_by (own k (answers conn j.heard t.hub).1)) none

  none_by : (found : Option MessageEnd) (conn k : ℕ) (w : WireState) (t : Talk H) → t.ends conn ≡ found → t.ends k ≡ None → (heard_one ears answers conn w t).ends k ≡ None
  none_by None conn k w t is none = ap (λ (x : Talk H). x.ends k) (none_taken ears answers conn (w ∷ []) t is) ∙ none
  none_by (Some e) conn k w t is none = none_at (is_deaf (ears conn t.hub)) conn k w t e is (apart_by (k == conn) refl) refl none
    where
      apart_by : (b : Bool) → (k == conn) ≡ b → (k == conn) ≡ false
      apart_by true same = absurd (some_none e (sym is ∙ ap (λ n. t.ends n) (sym (number_is k conn same)) ∙ none))
        where
          some_none : (e : MessageEnd) → Some e ≡ None → ⊥
          some_none e is = absurd cc
      apart_by false differ = differ

  pub none_stays : (conn k : ℕ) (wires : List WireState) (t : Talk H) → t.ends k ≡ None → (heard_all ears answers conn wires t).ends k ≡ None
  none_stays conn k [] t none = none
  none_stays conn k (w ∷ wires) t none = none_stays conn k wires (heard_one ears answers conn w t) (none_by (t.ends conn) conn k w t refl none)

abbrev closing_did : ℕ → Server → Server
closing_did n t = server_messages.with_ends (server_messages.end_closed n t.ends) (after (Closes n) t.hub)

abbrev opening_did : ℕ → Server → Server
opening_did n t = server_messages.with_ends (server_messages.end_opened n t.ends) (after (Opens n) t.hub)

abbrev obeyed_for : ℕ → ℕ → Server → Option MessageEnd → Option MessageEnd
obeyed_for n k t e = obeyed_by (own k (orders_of (after (Closes n) t.hub).said)) e

-- ---- events of the life

module _ (laws : ServerLaws) (E : ℕ → Type 0) (H : Type 0) (last : ℕ) where
  -- an event that opens and closes nothing leaves what is in flight
  goes_on : (f : server.BytesState → server.BytesState) (g : Server → Server) (r : server.BytesState) (t : Server) (c : Connection (List ℕ)) (d : Connection (List WireState))
      → IsEvent f g → ServesOn E H last r t c d → ServesOn E H last (f r) (g t) c d
  goes_on f g r t c d is s = record {
    firsts = s.firsts;
    stands = is.stands s.firsts r t s.stands;
    only = λ k differ. is.none k t (s.only k differ);
    conn = record {
      number = s.conn.number;
      back = s.conn.back;
      there = awaited ClientBrings (λ k. Awaits c.number k r) (λ k. Awaits c.number k (f r)) last c.there d.there (λ k x. is.awaits c.number k r x) s.conn.there;
      holds = s.conn.holds;
    };
  }

  happens_in : (f : server.BytesState → server.BytesState) (g : Server → Server) (boot position given : ℕ) (held : Bool)
      (life : Option server.BytesState) (talk : Option Server) (c : Option (Connection (List ℕ))) (d : Option (Connection (List WireState)))
      → IsEvent f g → Shown E H last life talk c d
      → SlotShows E H last (happens bytes.nodes f (record { boot = boot; life = life; position = position; held = held; given = given; connection = c }))
      (happens nodes g (record { boot = boot; life = talk; position = position; held = held; given = given; connection = d }))
  happens_in f g boot position given held None None None None is s = record { boot = refl; position = refl; held = refl; given = refl; shown = s }
  happens_in f g boot position given held None None None (Some d) is s = absurd s
  happens_in f g boot position given held None None (Some c) d is s = absurd s
  happens_in f g boot position given held None (Some t) c d is s = absurd s
  happens_in f g boot position given held (Some r) None c d is s = absurd s
  happens_in f g boot position given held (Some r) (Some t) None None is s = record {
    boot = refl;
    position = refl;
    held = refl;
    given = refl;
    shown = record { firsts = s.firsts; stands = is.stands s.firsts r t s.stands; none = λ k. is.none k t (s.none k) };
  }
  happens_in f g boot position given held (Some r) (Some t) None (Some d) is s = absurd s
  happens_in f g boot position given held (Some r) (Some t) (Some c) None is s = absurd s
  happens_in f g boot position given held (Some r) (Some t) (Some c) (Some d) is s = record {
    boot = refl;
    position = refl;
    held = refl;
    given = refl;
    shown = collect laws E H last (f r) (g t) c d (goes_on f g r t c d is s);
  }

  -- the other parts of a slot are the same on both sides
  with_parts : (s : bytes.ByteSlot) (z : MessageSlot) (F : bytes.ByteSlot → bytes.ByteSlot) (G : MessageSlot → MessageSlot) → SlotShows E H last s z
      → SlotShows E H last (F s) (G (record z { boot = s.boot; position = s.position; held = s.held; given = s.given })) → SlotShows E H last (F s) (G z)
  with_parts s z F G x y =
      subst (λ n. SlotShows E H last (F s) (G (record z { boot = n }))) x.boot
      (subst (λ n. SlotShows E H last (F s) (G (record z { boot = s.boot; position = n }))) x.position
      (subst (λ n. SlotShows E H last (F s) (G (record z { boot = s.boot; position = s.position; held = n }))) x.held
      (subst (λ n. SlotShows E H last (F s) (G (record z { boot = s.boot; position = s.position; held = s.held; given = n }))) x.given y)))

  pub happens_shows : (f : server.BytesState → server.BytesState) (g : Server → Server) (s : bytes.ByteSlot) (z : MessageSlot) → IsEvent f g → SlotShows E H last s z
      → SlotShows E H last (happens bytes.nodes f s) (happens nodes g z)
  happens_shows f g s z is x =
      with_parts s z (happens bytes.nodes f) (happens nodes g) x
      (happens_in f g s.boot s.position s.given s.held s.life z.life s.connection z.connection is x.shown)

  -- it is fed changes
  pub fed_shows : (changes : List Change) (s : bytes.ByteSlot) (z : MessageSlot) → AllByRecursion FitsChange changes → SlotShows E H last s z
      → SlotShows E H last (fed_all bytes.nodes changes s) (fed_all nodes changes z)
  fed_shows [] s z fits x = x
  fed_shows (change ∷ changes) s z fits x =
      fed_shows changes (happens bytes.nodes (bytes.nodes.feeds change) s) (happens nodes (nodes.feeds change) z) fits.1
      (happens_shows (bytes.nodes.feeds change) (nodes.feeds change) s z (laws.fed change fits.0) x)

  -- ---- what is in flight to the server comes

  pub heard_none : (conn k : ℕ) (wires : List WireState) (t : Server) → t.ends k ≡ None → (server_messages.heard conn wires t).ends k ≡ None
  heard_none conn k wires t none = none_stays ears server_messages.answers conn k wires t none

  comes : (r : server.BytesState) (t : Server) (c : Connection (List ℕ)) (d : Connection (List WireState)) → ServesOn E H last r t c d
      → ServesOn E H last (serving.stepped (served_event.Bytes c.number c.there) r) (server_messages.heard d.number d.there t) (record c { there = [] }) (record d { there = [] })
  comes r t c d s =
      let f = s.conn.there in
      let came = laws.heard c.number f.first last s.firsts f.sent r t (each_fits ClientBrings f.sent d.there f.wires_are f.fits) f.chain f.awaits s.stands in
      let after = λ (l : List ℕ). serving.stepped (served_event.Bytes c.number l) r in
      subst (λ (n : ℕ). ServesOn E H last (after c.there) (server_messages.heard n d.there t) (record c { there = [] }) (record d { there = [] })) s.conn.number
      (subst (λ (w : List WireState). ServesOn E H last (after c.there) (server_messages.heard c.number w t) (record c { there = [] }) (record d { there = [] })) f.wires_are
      (subst (λ (l : List ℕ). ServesOn E H last (after l) (server_messages.heard c.number (map (λ (m : Sent). m.wire) f.sent) t) (record c { there = [] }) (record d { there = [] })) (sym f.bytes_are)
      (record {
        firsts = s.firsts;
        stands = came.0;
        only = λ k differ. heard_none c.number k (map (λ (m : Sent). m.wire) f.sent) t (s.only k differ);
        conn = record {
          number = s.conn.number;
          back = s.conn.back;
          there = no_flight ClientBrings (λ k. Awaits c.number k (after (bytes_of f.sent))) last came.1;
          holds = s.conn.holds;
        };
      })))

  served_in : (boot position given : ℕ) (held : Bool) (life : Option server.BytesState) (talk : Option Server) (c : Option (Connection (List ℕ))) (d : Option (Connection (List WireState)))
      → Shown E H last life talk c d
      → SlotShows E H last (served bytes.nodes (record { boot = boot; life = life; position = position; held = held; given = given; connection = c }))
      (served nodes (record { boot = boot; life = talk; position = position; held = held; given = given; connection = d }))
  served_in boot position given held None None None None s = record { boot = refl; position = refl; held = refl; given = refl; shown = s }
  served_in boot position given held None None None (Some d) s = absurd s
  served_in boot position given held None None (Some c) d s = absurd s
  served_in boot position given held None (Some t) c d s = absurd s
  served_in boot position given held (Some r) None c d s = absurd s
  served_in boot position given held (Some r) (Some t) None None s = record { boot = refl; position = refl; held = refl; given = refl; shown = s }
  served_in boot position given held (Some r) (Some t) None (Some d) s = absurd s
  served_in boot position given held (Some r) (Some t) (Some c) None s = absurd s
  served_in boot position given held (Some r) (Some t) (Some c) (Some d) s = record {
    boot = refl;
    position = refl;
    held = refl;
    given = refl;
    shown = collect laws E H last (serving.stepped (served_event.Bytes c.number c.there) r) (server_messages.heard d.number d.there t) (record c { there = [] }) (record d { there = [] }) (comes r t c d s);
  }

  pub served_shows : (s : bytes.ByteSlot) (z : MessageSlot) → SlotShows E H last s z → SlotShows E H last (served bytes.nodes s) (served nodes z)
  served_shows s z x =
      with_parts s z (served bytes.nodes) (served nodes) x
      (served_in s.boot s.position s.given s.held s.life z.life s.connection z.connection x.shown)

  -- ---- the connection ends

  ended_none : (b : Bool) (n k : ℕ) (t : Server) → is_some (t.ends n) ≡ b → ((j : ℕ) → (j == n) ≡ false → t.ends j ≡ None) → (server_messages.closed n t).ends k ≡ None
  ended_none true n k t is only = closed_none (k == n) n k t is refl only
    where
      left_none : (b : Bool) (n k : ℕ) (t : Server) → (k == n) ≡ b → ((j : ℕ) → (j == n) ≡ false → t.ends j ≡ None) → set_end n None t.ends k ≡ None
      left_none true n k t same only = ap (λ x. cond x None (t.ends k)) same
      left_none false n k t differ only = ap (λ x. cond x None (t.ends k)) differ ∙ only k differ

      closed_none : (b : Bool) (n k : ℕ) (t : Server) → is_some (t.ends n) ≡ true → (k == n) ≡ b → ((j : ℕ) → (j == n) ≡ false → t.ends j ≡ None)
          → (server_messages.closed n t).ends k ≡ None
      closed_none b n k t is same only =
          let after = closing_did n t in
          ap (λ x. (cond x after t).ends k) is ∙ ap (obeyed_for n k t) (left_none b n k t same only)
  ended_none false n k t is only = ap (λ x. (cond x (closing_did n t) t).ends k) is ∙ nowhere (k == n) k refl
    where
      none_if : (e : Option MessageEnd) → is_some e ≡ false → e ≡ None
      none_if None is = refl
      none_if (Some e) is = absurd cc

      nowhere : (b : Bool) (k : ℕ) → (k == n) ≡ b → t.ends k ≡ None
      nowhere true k same = ap (λ j. t.ends j) (number_is k n same) ∙ none_if (t.ends n) is
      nowhere false k differ = only k differ

  parts : (r : server.BytesState) (t : Server) (c : Connection (List ℕ)) (d : Connection (List WireState)) → ServesOn E H last r t c d
      → Serves E H last (serving.stepped (served_event.Closed c.number) r) (server_messages.closed d.number t)
  parts r t c d s = subst (λ n. Serves E H last (serving.stepped (served_event.Closed c.number) r) (server_messages.closed n t)) s.conn.number (record {
    firsts = s.firsts;
    stands = laws.closed s.firsts c.number r t s.stands;
    none = λ k. ended_none (is_some (t.ends c.number)) c.number k t refl s.only;
  })

  parted_in : (boot position given : ℕ) (held : Bool) (life : Option server.BytesState) (talk : Option Server) (c : Option (Connection (List ℕ))) (d : Option (Connection (List WireState)))
      → Shown E H last life talk c d
      → SlotShows E H last (parted bytes.nodes (record { boot = boot; life = life; position = position; held = held; given = given; connection = c }))
      (parted nodes (record { boot = boot; life = talk; position = position; held = held; given = given; connection = d }))
  parted_in boot position given held None None None None s = record { boot = refl; position = refl; held = refl; given = refl; shown = s }
  parted_in boot position given held None None None (Some d) s = absurd s
  parted_in boot position given held None None (Some c) d s = absurd s
  parted_in boot position given held None (Some t) c d s = absurd s
  parted_in boot position given held (Some r) None c d s = absurd s
  parted_in boot position given held (Some r) (Some t) None None s = record { boot = refl; position = refl; held = refl; given = refl; shown = s }
  parted_in boot position given held (Some r) (Some t) None (Some d) s = absurd s
  parted_in boot position given held (Some r) (Some t) (Some c) None s = absurd s
  parted_in boot position given held (Some r) (Some t) (Some c) (Some d) s =
      record { boot = refl; position = refl; held = refl; given = refl; shown = parts r t c d s }

  pub parted_shows : (s : bytes.ByteSlot) (z : MessageSlot) → SlotShows E H last s z → SlotShows E H last (parted bytes.nodes s) (parted nodes z)
  parted_shows s z x =
      with_parts s z (parted bytes.nodes) (parted nodes) x
      (parted_in s.boot s.position s.given s.held s.life z.life s.connection z.connection x.shown)

  -- ---- a connection begins

  opened_by : (above there : Bool) (n k : ℕ) (t : Server) → is_above t.hub.highest n ≡ above → is_some (t.ends n) ≡ there → (k == n) ≡ false → t.ends k ≡ None
      → (server_messages.opened n t).ends k ≡ None
  opened_by true true n k t above there differ none =
      ap (λ b. (cond b (opening_did n t) t).ends k) above
      ∙ ap (λ b. obeyed_by (own k (orders_of (after (Opens n) t.hub).said)) (cond b t.ends (set_end n (Some new_end) t.ends) k)) there
      ∙ ap (obeyed_by (own k (orders_of (after (Opens n) t.hub).said))) none
  opened_by true false n k t above there differ none =
      ap (λ b. (cond b (opening_did n t) t).ends k) above
      ∙ ap (λ b. obeyed_by (own k (orders_of (after (Opens n) t.hub).said)) (cond b t.ends (set_end n (Some new_end) t.ends) k)) there
      ∙ ap (obeyed_by (own k (orders_of (after (Opens n) t.hub).said))) (set_apart n k (Some new_end) t.ends differ ∙ none)
  opened_by false there n k t above is differ none = ap (λ b. (cond b (opening_did n t) t).ends k) above ∙ none

  begins_on : (n : ℕ) (r : server.BytesState) (t : Server) → last ≡ 1 → E 1 → H → Serves E H last r t
      → ServesOn E H last (serving.stepped (served_event.Opened n) r) (server_messages.opened n t)
      (record { number = n; there = []; back = [] }) (record { number = n; there = []; back = [] })
  begins_on n r t first expects held s =
      let free : end_at n r.channels ≡ None = no_end (s.firsts n) (end_at n r.channels) (t.ends n) (s.stands.stands.shows.ends n) (s.none n) in
      let one : firsts_with n 1 s.firsts n ≡ 1 = ap (λ b. cond b 1 (s.firsts n)) (same_number n) in
      record {
        firsts = firsts_with n 1 s.firsts;
        stands = laws.opened s.firsts n r t free s.stands;
        only = λ k differ. opened_by (is_above t.hub.highest n) (is_some (t.ends n)) n k t refl refl differ (s.none k);
        conn = record {
          number = refl;
          back = no_flight ServerBrings E (firsts_with n 1 s.firsts n) (subst E (sym one) expects);
          there = no_flight ClientBrings (λ k. Awaits n k (serving.stepped (served_event.Opened n) r)) last (inr (subst (λ k. ExpectsIn k (end_at n (serving.stepped (served_event.Opened n) r).channels)) (sym first) (laws.new n r free)));
          holds = held;
        };
      }

  accepted_in : (boot position given : ℕ) (held : Bool) (life : Option server.BytesState) (talk : Option Server) (c : Option (Connection (List ℕ))) (d : Option (Connection (List WireState)))
      → last ≡ 1 → E 1 → H → c ≡ None → is_some life ≡ true → Shown E H last life talk c d
      → SlotShows E H last (accepted bytes.nodes (record { boot = boot; life = life; position = position; held = held; given = given; connection = c }))
      (accepted nodes (record { boot = boot; life = talk; position = position; held = held; given = given; connection = d }))
  accepted_in boot position given held None talk c d first expects holds none runs s = absurd cc
  accepted_in boot position given held (Some r) None c d first expects holds none runs s = absurd s
  accepted_in boot position given held (Some r) (Some t) (Some c) d first expects holds none runs s = absurd cc
  accepted_in boot position given held (Some r) (Some t) None (Some d) first expects holds none runs s = absurd s
  accepted_in boot position given held (Some r) (Some t) None None first expects holds none runs s =
      let n = min (given + 1) (2 ^ 32 - 1) in
      record {
        boot = refl;
        position = refl;
        held = refl;
        given = refl;
        shown = collect laws E H last (serving.stepped (served_event.Opened n) r) (server_messages.opened n t)
            (record { number = n; there = []; back = [] }) (record { number = n; there = []; back = [] }) (begins_on n r t first expects holds s);
      }

  pub accepted_shows : (s : bytes.ByteSlot) (z : MessageSlot) → last ≡ 1 → E 1 → H → s.connection ≡ None → is_some s.life ≡ true → SlotShows E H last s z
      → SlotShows E H last (accepted bytes.nodes s) (accepted nodes z)
  accepted_shows s z first expects holds none runs x =
      with_parts s z (accepted bytes.nodes) (accepted nodes) x
      (accepted_in s.boot s.position s.given s.held s.life z.life s.connection z.connection first expects holds none runs x.shown)

  -- ---- lives

  pub stopped_shows : (s : bytes.ByteSlot) (z : MessageSlot) → SlotShows E H last s z → SlotShows E H last (stopped s) (stopped z)
  stopped_shows s z x = record { boot = x.boot; position = x.position; held = x.held; given = x.given; shown = tt }

  pub started_shows : (firsts : ℕ → ℕ) (r : server.BytesState) (t : Server) (position : ℕ) (s : bytes.ByteSlot) (z : MessageSlot)
      → ServerStands firsts r t → ((k : ℕ) → t.ends k ≡ None) → SlotShows E H last s z → SlotShows E H last (started r position s) (started t position z)
  started_shows firsts r t position s z stands none x = record {
    boot = ap (λ n. min (n + 1) (2 ^ 16 - 1)) x.boot;
    position = refl;
    held = x.held;
    given = refl;
    shown = record { firsts = firsts; stands = stands; none = none };
  }

  pub new_shows : (firsts : ℕ → ℕ) (r : server.BytesState) (t : Server) → ServerStands firsts r t → ((k : ℕ) → t.ends k ≡ None) → SlotShows E H last (new_slot r) (new_slot t)
  new_shows firsts r t stands none = record {
    boot = refl;
    position = refl;
    held = refl;
    given = refl;
    shown = record { firsts = firsts; stands = stands; none = none };
  }

-- ---- what is seen of a slot

module _ (E : ℕ → Type 0) (H : Type 0) (last : ℕ) where
  pub connection_none : (life : Option server.BytesState) (talk : Option Server) (c : Option (Connection (List ℕ))) (d : Option (Connection (List WireState)))
      → Shown E H last life talk c d → is_some c ≡ is_some d
  connection_none None None None None s = refl
  connection_none None None None (Some d) s = absurd s
  connection_none None None (Some c) d s = absurd s
  connection_none None (Some t) c d s = absurd s
  connection_none (Some r) None c d s = absurd s
  connection_none (Some r) (Some t) None None s = refl
  connection_none (Some r) (Some t) None (Some d) s = absurd s
  connection_none (Some r) (Some t) (Some c) None s = absurd s
  connection_none (Some r) (Some t) (Some c) (Some d) s = refl

  end_there : (first : ℕ) (o : Option ChannelState) (e : Option MessageEnd) → ShowsEnd first o e → is_some o ≡ is_some e
  end_there first None None s = refl
  end_there first None (Some e) s = absurd s
  end_there first (Some c) None s = absurd s
  end_there first (Some c) (Some e) s = refl

  -- the server is closing the connection
  pub left_same : (life : Option server.BytesState) (talk : Option Server) (c : Option (Connection (List ℕ))) (d : Option (Connection (List WireState)))
      → Shown E H last life talk c d → is_left_by bytes.nodes life c ≡ is_left_by nodes talk d
  left_same None None None None s = refl
  left_same None None None (Some d) s = absurd s
  left_same None None (Some c) d s = absurd s
  left_same None (Some t) c d s = absurd s
  left_same (Some r) None c d s = absurd s
  left_same (Some r) (Some t) None None s = refl
  left_same (Some r) (Some t) None (Some d) s = absurd s
  left_same (Some r) (Some t) (Some c) None s = absurd s
  left_same (Some r) (Some t) (Some c) (Some d) s =
      ap₂ (λ (x y : Bool). x && y) (end_there (s.firsts c.number) (end_at c.number r.channels) (t.ends c.number) (s.stands.stands.shows.ends c.number))
      (ap (λ (h : ServerState). is_deaf (ears c.number h)) s.stands.stands.shows.hub)
      ∙ ap (λ n. is_some (t.ends n) && is_deaf (ears n t.hub)) s.conn.number
