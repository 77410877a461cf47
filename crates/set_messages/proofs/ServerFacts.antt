-- What is known of one server, from the laws of the crates below.
use Rattle.std.proofs.Common.{◌≡◌, ◌<◌, ◌^◌, ℕ, true, List, map, None, ap, inl, inr}
use Rattle.std.specs.List.{AllByRecursion}
use Rattle.set_model.specs.declared.source.Change.{Change}
use Rattle.ua_channel.specs.State.{WireState, is_deaf}
use Rattle.ua_channel.specs.Arriving.{Chain, Sent, bytes_of}
use Rattle.ua_channel.specs.Sharing.{end_at, own}
use Rattle.message_ends.specs.Ends.{obeyed_by}
use Rattle.message_ends.specs.Talk.{Talk, out_of}
use Rattle.message_ends.specs.Showing.{firsts_with}
use Rattle.server_rules.specs.declared.config.ServerConfig.{ServerConfig}
use Rattle.server_rules.specs.State.{ServerState}
use Rattle.server_rules.specs.Said.{orders_of}
use Rattle.server_rules.specs.Step.{Feeds, Happening, Levels, Ticks, after, ears}
use Rattle.server_keeps.specs.Fitting.{FitsChange, FitsConfig}
use Rattle.server_keeps.specs.Lawful.{OpensOther}
use Rattle.ua_server.specs.declared.event.ServerEvent.TheVariants as served
use Rattle.ua_server.specs.State as server
use Rattle.ua_server.specs.Step as serving
use Rattle.server_messages.specs.Fitting.{Brings, ComesFit}
use Rattle.server_messages.specs.Messages as messages
use Rattle.server_messages.specs.Showing.{ArePut, Awaits, ServerStands}
use Rattle.server_messages.proofs.Events.{happened_awaits, opened_awaits}
use Rattle.server_messages.proofs.Taking.{emptied_other, shows_taken, was_put}
use Rattle.set_messages.proofs.Facts.{IsEvent, ServerLaws}
use Rattle.set_messages.proofs.Flights.{IsMore}

-- the clauses of messages_show_bytes and messages_show_what_comes; and that a connection that is deaf stays so, whatever
-- happens but that its number is opened
pub record GivenServer : Type 0 where
  pub begins : (config : ServerConfig) (current : List Change) → FitsConfig config → AllByRecursion FitsChange current
      → ServerStands (λ conn. 1) (server.new_bytes config current) (messages.new_talk config current)
  pub opened : (firsts : ℕ → ℕ) (conn : ℕ) (r : server.BytesState) (t : Talk ServerState) → end_at conn r.channels ≡ None → ServerStands firsts r t
      → ServerStands (firsts_with conn 1 firsts) (serving.stepped (served.Opened conn) r) (messages.opened conn t)
  pub closed : (firsts : ℕ → ℕ) (conn : ℕ) (r : server.BytesState) (t : Talk ServerState) → ServerStands firsts r t
      → ServerStands firsts (serving.stepped (served.Closed conn) r) (messages.closed conn t)
  pub fed : (firsts : ℕ → ℕ) (change : Change) (r : server.BytesState) (t : Talk ServerState) → FitsChange change → ServerStands firsts r t
      → ServerStands firsts (serving.stepped (served.Feed change) r) (messages.fed change t)
  pub ticked : (firsts : ℕ → ℕ) (ms : ℕ) (r : server.BytesState) (t : Talk ServerState) → ServerStands firsts r t
      → ServerStands firsts (serving.stepped (served.Tick ms) r) (messages.ticked ms t)
  pub leveled : (firsts : ℕ → ℕ) (level : ℕ) (r : server.BytesState) (t : Talk ServerState) → level < 2 ^ 8 → ServerStands firsts r t
      → ServerStands firsts (serving.stepped (served.Level level) r) (messages.leveled level t)
  pub shown : (conn first next : ℕ) (firsts : ℕ → ℕ) (sent : List Sent) (r : server.BytesState) (t : Talk ServerState)
      → AllByRecursion (λ m. ComesFit m.wire) sent → Chain first sent next → Awaits conn first r → ServerStands firsts r t
      → ServerStands firsts (serving.stepped (served.Bytes conn (bytes_of sent)) r) (messages.heard conn (map (λ m. m.wire) sent) t)
  pub awaits : (conn first next : ℕ) (firsts : ℕ → ℕ) (sent : List Sent) (r : server.BytesState) (t : Talk ServerState)
      → AllByRecursion (λ m. ComesFit m.wire) sent → Chain first sent next → Awaits conn first r → ServerStands firsts r t
      → Awaits conn next (serving.stepped (served.Bytes conn (bytes_of sent)) r)
  pub deaf : (number : ℕ) (happening : Happening) (s : ServerState) → OpensOther number happening → is_deaf (ears number s) ≡ true
      → is_deaf (ears number (after happening s).state) ≡ true

more_is : (first next : ℕ) (bytes : List ℕ) (wires : List WireState) → ArePut first next bytes wires → IsMore Brings first next bytes wires
more_is first next bytes wires put = record { sent = put.sent; wires_are = put.wires_are; bytes_are = put.bytes_are; chain = put.chain; fits = put.brings }

module _ (given : GivenServer) where
  -- where nothing is opened a deaf connection stays deaf, and an end awaits what it awaited
  still_awaits : (happening : Happening) (conn next : ℕ) (r : server.BytesState) → OpensOther conn happening → Awaits conn next r
      → Awaits conn next (serving.with_ends r.channels (after happening r.hub))
  still_awaits happening conn next r other (inl deaf) = inl (given.deaf conn happening r.hub other deaf)
  still_awaits happening conn next r other (inr x) = inr (happened_awaits happening conn next r x)

  fed_is : (change : Change) → FitsChange change → IsEvent (serving.stepped (served.Feed change)) (messages.fed change)
  fed_is change fits = record {
    stands = λ firsts r t s. given.fed firsts change r t fits s;
    awaits = λ conn next r x. still_awaits (Feeds change) conn next r tt x;
    none = λ k t none. ap (obeyed_by (own k (orders_of (after (Feeds change) t.hub).said))) none;
  }

  ticked_is : (ms : ℕ) → IsEvent (serving.stepped (served.Tick ms)) (messages.ticked ms)
  ticked_is ms = record {
    stands = λ firsts r t s. given.ticked firsts ms r t s;
    awaits = λ conn next r x. still_awaits (Ticks ms) conn next r tt x;
    none = λ k t none. ap (obeyed_by (own k (orders_of (after (Ticks ms) t.hub).said))) none;
  }

  leveled_is : (level : ℕ) → level < 2 ^ 8 → IsEvent (serving.stepped (served.Level level)) (messages.leveled level)
  leveled_is level fits = record {
    stands = λ firsts r t s. given.leveled firsts level r t fits s;
    awaits = λ conn next r x. still_awaits (Levels level) conn next r tt x;
    none = λ k t none. ap (obeyed_by (own k (orders_of (after (Levels level) t.hub).said))) none;
  }

  pub server_laws : ServerLaws
  server_laws = record {
    begins = given.begins;
    opened = given.opened;
    new = opened_awaits;
    closed = given.closed;
    fed = fed_is;
    ticked = ticked_is;
    leveled = leveled_is;
    heard = λ conn first next firsts sent r t fits chain awaits s. (
      given.shown conn first next firsts sent r t fits chain awaits s,
      given.awaits conn first next firsts sent r t fits chain awaits s,
    );
    taken = shows_taken;
    still = emptied_other;
    put = λ firsts conn c r t is s.
        more_is (firsts conn) c.sending.next (server.out_of conn r) (out_of conn t) (was_put firsts conn c r t is s);
  }
