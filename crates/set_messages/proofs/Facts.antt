-- What is known of one server and of the client: over bytes they are shown by what they are over messages.
use Rattle.std.proofs.Common.{◌≡◌, ℕ, ◌==◌, ◌<◌, ◌^◌, true, false, List, [], map, Some, None}
use Rattle.std.specs.List.{AllByRecursion}
use Rattle.set_model.specs.declared.source.Change.{Change}
use Rattle.ua_channel.specs.State.{ChannelState}
use Rattle.ua_channel.specs.Arriving.{Chain, Sent, bytes_of}
use Rattle.ua_channel.specs.Sharing.{end_at}
use Rattle.message_ends.specs.Talk.{out_of, without_out}
use Rattle.message_ends.specs.Showing.{ExpectsIn, firsts_with, next_in}
use Rattle.link_rules.specs.Opening.{begins_anew}
use Rattle.link_rules.specs.declared.notice.Wish.TheVariants as wish
use Rattle.server_rules.specs.declared.config.ServerConfig.{ServerConfig}
use Rattle.server_keeps.specs.Fitting.{FitsChange, FitsConfig}
use Rattle.ua_server.specs.declared.event.ServerEvent.TheVariants as served
use Rattle.ua_server.specs.State as server
use Rattle.ua_server.specs.Step as serving
use Rattle.server_messages.specs.Fitting.{Brings as ServerBrings, ComesFit as ServerTakes}
use Rattle.server_messages.specs.Messages as server_messages
use Rattle.server_messages.specs.Showing.{Awaits, ServerStands}
use Rattle.client_rules.specs.State.{is_server, link_of}
use Rattle.client_orders.specs.Holding.{HoldsConnection}
use Rattle.client_messages.specs.Messages as client_messages
use Rattle.client_messages.specs.Showing.{Brings as ClientBrings, ComesFit as ClientTakes}
use Rattle.ua_client.specs.declared.event.ClientEvent.TheVariants as learned
use Rattle.ua_client.specs.State as client
use Rattle.ua_client.specs.Step as learning
use Rattle.set_messages.specs.Nodes.{Client, Server}
use Rattle.set_messages.proofs.Flights.{IsMore}

-- ---- a server

-- an event of a server that opens and closes nothing: over bytes and over messages
pub record IsEvent (over_bytes : server.BytesState → server.BytesState) (over_messages : Server → Server) : Type 0 where
  pub stands : (firsts : ℕ → ℕ) (r : server.BytesState) (t : Server) → ServerStands firsts r t → ServerStands firsts (over_bytes r) (over_messages t)
  pub awaits : (conn next : ℕ) (r : server.BytesState) → Awaits conn next r → Awaits conn next (over_bytes r)
  pub none : (k : ℕ) (t : Server) → t.ends k ≡ None → (over_messages t).ends k ≡ None

pub record ServerLaws : Type 0 where
  pub begins : (config : ServerConfig) (current : List Change) → FitsConfig config → AllByRecursion FitsChange current
      → ServerStands (λ conn. 1) (server.new_bytes config current) (server_messages.new_talk config current)
  pub opened : (firsts : ℕ → ℕ) (conn : ℕ) (r : server.BytesState) (t : Server) → end_at conn r.channels ≡ None → ServerStands firsts r t
      → ServerStands (firsts_with conn 1 firsts) (serving.stepped (served.Opened conn) r) (server_messages.opened conn t)
  pub new : (conn : ℕ) (r : server.BytesState) → end_at conn r.channels ≡ None → ExpectsIn 1 (end_at conn (serving.stepped (served.Opened conn) r).channels)
  pub closed : (firsts : ℕ → ℕ) (conn : ℕ) (r : server.BytesState) (t : Server) → ServerStands firsts r t
      → ServerStands firsts (serving.stepped (served.Closed conn) r) (server_messages.closed conn t)
  pub fed : (change : Change) → FitsChange change → IsEvent (serving.stepped (served.Feed change)) (server_messages.fed change)
  pub ticked : (ms : ℕ) → IsEvent (serving.stepped (served.Tick ms)) (server_messages.ticked ms)
  pub leveled : (level : ℕ) → level < 2 ^ 8 → IsEvent (serving.stepped (served.Level level)) (server_messages.leveled level)
  pub heard : (conn first next : ℕ) (firsts : ℕ → ℕ) (sent : List Sent) (r : server.BytesState) (t : Server)
      → AllByRecursion (λ (m : Sent). ServerTakes m.wire) sent → Chain first sent next → Awaits conn first r → ServerStands firsts r t
      → ServerStands firsts (serving.stepped (served.Bytes conn (bytes_of sent)) r) (server_messages.heard conn (map (λ (m : Sent). m.wire) sent) t)
      × Awaits conn next (serving.stepped (served.Bytes conn (bytes_of sent)) r)
  pub taken : (firsts : ℕ → ℕ) (conn : ℕ) (r : server.BytesState) (t : Server) → ServerStands firsts r t
      → ServerStands (firsts_with conn (next_in (end_at conn r.channels)) firsts) (server.without_out conn r) (without_out conn t)
  pub still : (conn other next : ℕ) (r : server.BytesState) → ExpectsIn next (end_at other r.channels) → ExpectsIn next (end_at other (server.without_out conn r).channels)
  pub put : (firsts : ℕ → ℕ) (conn : ℕ) (c : ChannelState) (r : server.BytesState) (t : Server) → end_at conn r.channels ≡ Some c → ServerStands firsts r t
      → IsMore ServerBrings (firsts conn) c.sending.next (server.out_of conn r) (out_of conn t)

-- ---- the client

-- what its link to a server awaits, and that its connection stands
abbrev pub LinkExpects : ℕ → client.BytesState → ℕ → Type 0
LinkExpects number rc next = ExpectsIn next (end_at number rc.channels)

abbrev pub LinkHolds : ℕ → client.BytesState → Type 0
LinkHolds number rc = HoldsConnection (link_of number rc.hub)

-- the other links of which a connection stands are as they were
abbrev pub OthersStay : ℕ → client.BytesState → client.BytesState → Type 0
OthersStay number before after = (k : ℕ) → (k == number) ≡ false → is_server k before.hub ≡ true → LinkHolds k before
    → LinkHolds k after × ((next : ℕ) → LinkExpects k before next → LinkExpects k after next)

abbrev pub SameServers : client.BytesState → client.BytesState → Type 0
SameServers before after = (k : ℕ) → is_server k after.hub ≡ is_server k before.hub

pub record ClientLaws (Shows : (ℕ → ℕ) → client.BytesState → Client → Type 0) : Type 0 where
  pub hub : (firsts : ℕ → ℕ) (rc : client.BytesState) (tc : Client) → Shows firsts rc tc → rc.hub ≡ tc.hub
  pub connects : (number : ℕ) (firsts : ℕ → ℕ) (rc : client.BytesState) (tc : Client) → is_server number rc.hub ≡ true
      → begins_anew (link_of number rc.hub) ≡ true → Shows firsts rc tc
      → let after = learning.stepped (learned.Opened number) rc in
      Shows (firsts_with number 1 firsts) after (client_messages.connects number tc) × LinkExpects number after 1 × LinkHolds number after
      × OthersStay number rc after × SameServers rc after
  pub refused : (number : ℕ) (firsts : ℕ → ℕ) (rc : client.BytesState) (tc : Client) → is_server number rc.hub ≡ true → Shows firsts rc tc
      → let after = learning.stepped (learned.Refused number) rc in
      Shows firsts after (client_messages.is_refused number tc) × OthersStay number rc after × SameServers rc after
  pub closed : (number : ℕ) (firsts : ℕ → ℕ) (rc : client.BytesState) (tc : Client) → is_server number rc.hub ≡ true → Shows firsts rc tc
      → let after = learning.stepped (learned.Closed number) rc in
      Shows firsts after (client_messages.closes number tc) × OthersStay number rc after × SameServers rc after
  pub waited : (ms : ℕ) (firsts : ℕ → ℕ) (rc : client.BytesState) (tc : Client) → Shows firsts rc tc
      → let after = learning.stepped (learned.Tick ms) rc in
      Shows firsts after (client_messages.waits ms tc) × OthersStay 0 rc after × SameServers rc after
  pub heard : (number first next : ℕ) (firsts : ℕ → ℕ) (sent : List Sent) (rc : client.BytesState) (tc : Client) → is_server number rc.hub ≡ true
      → AllByRecursion (λ (m : Sent). ClientTakes m.wire) sent → Chain first sent next → LinkExpects number rc first → Shows firsts rc tc
      → let after = learning.stepped (learned.Bytes number (bytes_of sent)) rc in
      Shows firsts after (client_messages.hears number (map (λ (m : Sent). m.wire) sent) tc) × LinkExpects number after next
      × (LinkHolds number rc → LinkHolds number after) × OthersStay number rc after × SameServers rc after
  pub put : (firsts : ℕ → ℕ) (number : ℕ) (e : ChannelState) (rc : client.BytesState) (tc : Client) → end_at number rc.channels ≡ Some e → Shows firsts rc tc
      → IsMore ClientBrings (firsts number) e.sending.next (client.out_of number rc) (out_of number tc)
  pub put_nowhere : (firsts : ℕ → ℕ) (number : ℕ) (rc : client.BytesState) (tc : Client) → end_at number rc.channels ≡ None → Shows firsts rc tc
      → (client.out_of number rc ≡ []) × (out_of number tc ≡ []) × Shows firsts (client.without_out number rc) (without_out number tc)
  pub taken : (firsts : ℕ → ℕ) (number : ℕ) (rc : client.BytesState) (tc : Client) → Shows firsts rc tc
      → Shows (firsts_with number (next_in (end_at number rc.channels)) firsts) (client.without_out number rc) (without_out number tc)
  pub still : (number other next : ℕ) (rc : client.BytesState) → LinkExpects other rc next → LinkExpects other (client.without_out number rc) next
  pub wish_taken : (number : ℕ) (firsts : ℕ → ℕ) (rc : client.BytesState) (tc : Client) → is_server number rc.hub ≡ true → Shows firsts rc tc
      → let after : client.BytesState = record rc { hub = client.without_wish number rc.hub } in
      Shows firsts after (client_messages.without_wish_of number tc) × OthersStay number rc after × SameServers rc after
  -- where it wishes to dial, it may once that wish is taken, and the connection that is opened then is the first of its own
  pub dials : (number : ℕ) (rc : client.BytesState) → is_server number rc.hub ≡ true → client.wished number rc.hub ≡ wish.Dial
      → begins_anew (link_of number (client.without_wish number rc.hub)) ≡ true
  pub dials_alone : (number : ℕ) (rc : client.BytesState) → is_server number rc.hub ≡ true → client.wished number rc.hub ≡ wish.Dial → LinkHolds number rc → ⊥
  -- a link that wishes for nothing is as before once that is taken
  pub wishes_none : (number : ℕ) (rc : client.BytesState) → is_server number rc.hub ≡ true → client.wished number rc.hub ≡ wish.None
      → LinkHolds number rc → LinkHolds number (record rc { hub = client.without_wish number rc.hub })
