-- A whole set, from its beginning on: over messages it shows what it is over bytes.
use Rattle.std.proofs.Common.{length, true, false, ◌≡◌, ℕ, ◌+◌, ◌^◌, ◌≤◌, ◌<◌, ◌&&◌, nat_le, Bool, true, List, [], Option, Some, None, refl, sym, ap, subst, ◌∙◌, arith}
use Rattle.std.proofs.lemmas.Bool.Decides.{nat_tests}
use Rattle.std.proofs.lemmas.List.{length-replicate}
use Rattle.std.specs.List.{AllByRecursion}
use Rattle.ua_base.specs.declared.modes.SetMode.{SetMode}
use Rattle.ua_channel.specs.State.{WireState}
use Rattle.scenario.specs.declared.line.Line.{Line}
use Rattle.set_model.specs.declared.source.Change.{Change}
use Rattle.client_messages.proofs.Dialling.{dialled_server}
use Rattle.client_rules.specs.State.{idle_client, is_server, link_config, servers_of}
use Rattle.link_rules.specs.State.{new_link}
use Rattle.server_keeps.specs.Fitting.{FitsChange}
use Rattle.server_messages.specs.Showing.{ServerStands}
use Rattle.client_messages.specs.Showing.{Stands}
use Rattle.client_messages.proofs.Beginning as client_begins
use Rattle.set_rules.specs.State.{Connection}
use Rattle.set_rules.specs.Slots.{currents, new_slot}
use Rattle.set_rules.specs.Moves.{slot_at}
use Rattle.set_rules.specs.World.{after_all, new_set}
use Rattle.set_rules.proofs.Places.{place_within, slot_new, slots_long}
use Rattle.set_world.proofs.Counting.{urls_count}
use Rattle.direct_world.specs.Server.{place_in}
use Rattle.set_world.specs.Bytes as bytes
use Rattle.set_world.specs.Flight.{flight_at, flight_in, flight_of}
use Rattle.set_world.specs.State.{ByteSet}
use Rattle.set_world.specs.Texts.{client_config, server_config}
use Rattle.ua_client.specs.State as client
use Rattle.ua_server.specs.State as server
use Rattle.set_messages.specs.Fitting.{FitsLine}
use Rattle.set_messages.specs.Nodes.{Server, beginning}
use Rattle.set_messages.specs.Showing.{AreBytesOf, SetIsShown, ShowsConnection, ShowsLife, SlotIsShown}
use Rattle.set_messages.specs.World.{MessageSet, messages_after, new_messages}
use Rattle.set_messages.proofs.Flights.{Flight}
use Rattle.set_messages.proofs.Facts.{LinkExpects, LinkHolds, ServerLaws}
use Rattle.set_messages.proofs.Slots.{MessageSlot, Shown, SlotShows, new_shows}
use Rattle.set_messages.proofs.Sets.{IsShown, ShowsAt}
use Rattle.set_messages.proofs.Lines.{lines_show}
use Rattle.set_messages.proofs.Beginning.{client_fits, currents_fit, server_fits}
use Rattle.set_messages.proofs.ClientFacts.{client_laws}

abbrev bytes_new : SetMode → ℕ → ℕ → ℕ → Bool → ByteSet
bytes_new mode servers items queue oldest =
    new_set (bytes.beginning mode servers items) servers (client.new_bytes (client_config mode servers items queue oldest))

module _ (sl : ServerLaws) (mode : SetMode) (servers items queue : ℕ) (oldest : Bool) (few : servers ≤ 8) where
  begins : (place boot : ℕ) (source : List Change) → boot < 2 ^ 16 → AllByRecursion FitsChange source
      → (firsts : ℕ → ℕ) × ServerStands firsts (bytes.beginning mode servers items (place + 1) boot (currents items source))
      (beginning mode servers items (place + 1) boot (currents items source))
      × ((k : ℕ) → (beginning mode servers items (place + 1) boot (currents items source)).ends k ≡ None)
  begins place boot source small fits = (
    λ conn. 1,
    sl.begins (server_config mode servers items (place + 1) boot) (currents items source) (server_fits mode servers items (place + 1) boot few small) (currents_fit items source fits),
    λ k. refl,
  )

  none_now : items < 2 ^ 8 → currents items [] ≡ currents items []
  none_now small = refl

  first_shows : (place : ℕ) → ShowsAt Stands (λ k. 1) (client.new_bytes (client_config mode servers items queue oldest)) place
      (new_slot (bytes.beginning mode servers items (place + 1) 1 [])) (new_slot (beginning mode servers items (place + 1) 1 []))
  first_shows place =
      new_shows sl (LinkExpects (place + 1) (client.new_bytes (client_config mode servers items queue oldest)))
      (LinkHolds (place + 1) (client.new_bytes (client_config mode servers items queue oldest))) 1 (λ conn. 1)
      (bytes.beginning mode servers items (place + 1) 1 []) (beginning mode servers items (place + 1) 1 [])
      (sl.begins (server_config mode servers items (place + 1) 1) [] (server_fits mode servers items (place + 1) 1 few (omega arith)) tt) (λ k. refl)

  pub new_shown : items < 2 ^ 8 → queue < 2 ^ 32
      → ((place : ℕ) → place + 1 ≤ servers → is_server (place + 1) (client.new_bytes (client_config mode servers items queue oldest)).hub ≡ true)
      → IsShown Stands servers (bytes_new mode servers items queue oldest) (new_messages mode servers items queue oldest)
  new_shown some long known = record {
    firsts = λ k. 1;
    set = record {
      source = refl;
      fits = tt;
      slots = slots_long (List ℕ) (bytes.beginning mode servers items) servers;
      talks = slots_long (List WireState) (beginning mode servers items) servers;
      known = known;
      client = client_begins.begins (client_config mode servers items queue oldest) (client_fits mode servers items queue oldest few some long);
      each = λ place here.
          subst (λ s. ShowsAt Stands (λ k. 1) (client.new_bytes (client_config mode servers items queue oldest)) place s (slot_at place (new_messages mode servers items queue oldest)))
          (sym (slot_new (List ℕ) (bytes.beginning mode servers items) servers place here))
          (subst (λ z. ShowsAt Stands (λ k. 1) (client.new_bytes (client_config mode servers items queue oldest)) place (new_slot (bytes.beginning mode servers items (place + 1) 1 [])) z)
          (sym (slot_new (List WireState) (beginning mode servers items) servers place here)) (first_shows place));
    };
  }

  pub shown : items < 2 ^ 8 → queue < 2 ^ 32 → (lines : List Line) → AllByRecursion FitsLine lines
      → ((place : ℕ) → place + 1 ≤ servers → is_server (place + 1) (client.new_bytes (client_config mode servers items queue oldest)).hub ≡ true)
      → IsShown Stands servers (after_all bytes.nodes (bytes.beginning mode servers items) items lines (bytes_new mode servers items queue oldest))
      (messages_after mode servers items queue oldest lines)
  shown some long lines fits known =
      lines_show Stands sl client_laws items (bytes.beginning mode servers items) (beginning mode servers items) begins lines servers
      (bytes_new mode servers items queue oldest) (new_messages mode servers items queue oldest) fits (new_shown some long known)

-- ---- the servers that a client knows from its beginning

within_count : (n count : ℕ) → 1 ≤ n → n ≤ count → (nat_le 1 n && nat_le n count) ≡ true
within_count n count one most = grind (arith, nat_tests)

pub known_new : (mode : SetMode) (servers items queue : ℕ) (oldest : Bool) (place : ℕ) → place + 1 ≤ servers
    → is_server (place + 1) (client.new_bytes (client_config mode servers items queue oldest)).hub ≡ true
known_new mode servers items queue oldest place here =
    let config = client_config mode servers items queue oldest in
    dialled_server (place + 1) (idle_client config)
    ∙ ap (λ n. nat_le 1 (place + 1) && nat_le (place + 1) n) (length-replicate (servers_of config) (new_link (link_config config)) ∙ urls_count servers)
    ∙ within_count (place + 1) servers (omega arith) here

-- ---- what is seen of it

bytes_of_flight : {F : WireState → Type 0} {A : ℕ → Type 0} {n : ℕ} {l : List ℕ} {w : List WireState} → Flight F A n l w → AreBytesOf l w
bytes_of_flight {F} {A} {n} f = record { first = f.first; next = n; sent = f.sent; wires_are = f.wires_are; bytes_are = f.bytes_are; chain = f.chain }

module _ (E : ℕ → Type 0) (H : Type 0) (last : ℕ) where
  life_seen : (life : Option server.BytesState) (talk : Option Server) (c : Option (Connection (List ℕ))) (d : Option (Connection (List WireState)))
      → Shown E H last life talk c d → ShowsLife life talk
  life_seen None None c d s = tt
  life_seen None (Some t) c d s = s
  life_seen (Some r) None c d s = s
  life_seen (Some r) (Some t) None None s = s.stands.stands.shows.hub
  life_seen (Some r) (Some t) None (Some d) s = absurd s
  life_seen (Some r) (Some t) (Some c) None s = absurd s
  life_seen (Some r) (Some t) (Some c) (Some d) s = s.stands.stands.shows.hub

  connection_seen : (life : Option server.BytesState) (talk : Option Server) (c : Option (Connection (List ℕ))) (d : Option (Connection (List WireState)))
      → Shown E H last life talk c d → ShowsConnection c d
  connection_seen None None None None s = tt
  connection_seen None None None (Some d) s = s
  connection_seen None None (Some c) d s = absurd s
  connection_seen None (Some t) c d s = absurd s
  connection_seen (Some r) None c d s = absurd s
  connection_seen (Some r) (Some t) None None s = tt
  connection_seen (Some r) (Some t) None (Some d) s = s
  connection_seen (Some r) (Some t) (Some c) None s = s
  connection_seen (Some r) (Some t) (Some c) (Some d) s =
      record { number = s.conn.number; there = bytes_of_flight s.conn.there; back = bytes_of_flight s.conn.back }

  slot_seen : (s : bytes.ByteSlot) (z : MessageSlot) → SlotShows E H last s z → SlotIsShown s z
  slot_seen s z x = record {
    boot = x.boot;
    position = x.position;
    held = x.held;
    given = x.given;
    life = life_seen s.life z.life s.connection z.connection x.shown;
    connection = connection_seen s.life z.life s.connection z.connection x.shown;
  }

pub seen : (count : ℕ) (b : ByteSet) (m : MessageSet) → IsShown Stands count b m → SetIsShown b m
seen count b m x = record {
  source = x.set.source;
  client = x.set.client.shows.hub;
  count = x.set.slots ∙ sym x.set.talks;
  slots = λ place here. slot_seen (LinkExpects (place + 1) b.client) (LinkHolds (place + 1) b.client) (x.firsts (place + 1)) (slot_at place b) (slot_at place m)
      (x.set.each place (subst (λ n. place + 1 ≤ n) x.set.slots here));
}

-- ---- the bytes in flight

nothing_flies : AreBytesOf [] []
nothing_flies = record { first = 1; next = 1; sent = []; wires_are = refl; bytes_are = refl; chain = refl }

flight_seen : (to_server : Bool) (c : Option (Connection (List ℕ))) (d : Option (Connection (List WireState))) → ShowsConnection c d
    → AreBytesOf (flight_in [] c to_server) (flight_in [] d to_server)
flight_seen to_server None None s = nothing_flies
flight_seen to_server None (Some d) s = absurd s
flight_seen to_server (Some c) None s = absurd s
flight_seen true (Some c) (Some d) s = s.there
flight_seen false (Some c) (Some d) s = s.back

wire_by : (found : Option ℕ) (number : ℕ) (to_server : Bool) (b : ByteSet) (m : MessageSet) → place_in number (length b.slots) ≡ found → SetIsShown b m
    → AreBytesOf (flight_at [] found to_server b) (flight_at [] found to_server m)
wire_by None number to_server b m is x = nothing_flies
wire_by (Some place) number to_server b m is x =
    flight_seen to_server (slot_at place b).connection (slot_at place m).connection (x.slots place (place_within number (length b.slots) place is)).connection

pub wire : (number : ℕ) (to_server : Bool) (b : ByteSet) (m : MessageSet) → SetIsShown b m
    → AreBytesOf (flight_of [] number to_server b) (flight_of [] number to_server m)
wire number to_server b m x =
    subst (λ n. AreBytesOf (flight_of [] number to_server b) (flight_at [] (place_in number n) to_server m)) x.count
    (wire_by (place_in number (length b.slots)) number to_server b m refl x)
