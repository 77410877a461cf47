-- The histories of a set, from its beginning on.
use Rattle.std.proofs.Common.{◌≡◌, ◌≤◌, ℕ, zero, suc, ◌+◌, ◌-◌, Bool, false, List, [], ◌∷◌, length, Some, refl, sym, ap, subst, ◌∙◌, arith}
use Rattle.std.proofs.lemmas.List.{length-append, length-replicate}
use Rattle.ua_base.specs.declared.modes.SetMode.{SetMode}
use Rattle.set_model.specs.declared.source.Change.{Change}
use Rattle.scenario.specs.declared.line.Line.{Line}
use Rattle.ua_channel.specs.State.{WireState}
use Rattle.server_rules.specs.declared.config.ServerConfig.{ServerConfig}
use Rattle.server_rules.specs.State.{ServerState, new_server}
use Rattle.server_rules.specs.Step.{Happening, after}
use Rattle.server_laws.specs.Lockstep as lockstep
use Rattle.server_laws.specs.Lockstep.{IsQuiet, MayHear, Other}
use Rattle.link_rules.specs.State.{new_link}
use Rattle.client_rules.specs.declared.config.ClientConfig.{ClientConfig}
use Rattle.client_rules.specs.State.{ClientState, idle_client, link_config, servers_of}
use Rattle.client_rules.specs.Step.{new_client}
use Rattle.client_orders.proofs.Clients.{dialled_long}
use Rattle.client_messages.specs.Messages as learning
use Rattle.set_rules.specs.State.{SetState}
use Rattle.set_fronts.specs.Below.{client_config, url_text, urls, Client, Server, beginning, nodes, messages_after}
use Rattle.set_fronts.specs.Noting.{NotedClient, NotedLife, noted_client, noted_life, noting}
use Rattle.set_histories.specs.Recording.{RecordedClient, RecordedLife, recorded_client, recorded_life, recording}
use Rattle.set_histories.specs.Histories.{AllLived, AreDialled, IsLearned, IsLived, lives_after, recorded_after}
use Rattle.set_talks.specs.Lives.{dials_after}
use Rattle.set_histories.proofs.Dialled.{are_dialled}
use Rattle.set_histories.proofs.Forgetting.{IsForgotten, forgotten}
use Rattle.set_histories.proofs.Learning.{IsStated, at_none, state_kept}
use Rattle.set_histories.proofs.Linking.{links_keep}
use Rattle.set_histories.proofs.Links.{Told, links_kept, within_is}
use Rattle.set_histories.proofs.Living.{IsKept, is_lived, lived, lives_are_kept}
use Rattle.set_histories.proofs.Walking.{lives_keep}

-- ---- the same set

abbrev life_talk : NotedLife RecordedLife WireState → Server
life_talk life = life.node.talk

abbrev client_talk : NotedClient RecordedClient WireState → Client
client_talk c = c.node.talk

records : IsForgotten nodes (noting recording) life_talk client_talk
records = record {
  nothing = refl;
  joined = λ x y. refl;
  accepts = λ k t. refl;
  ends = λ k t. refl;
  hears = λ k wires t. refl;
  feeds = λ change t. refl;
  ticks = λ ms t. refl;
  levels = λ level t. refl;
  answered = λ k t. refl;
  emptied = λ k t. refl;
  is_closing = λ k t. refl;
  connects = λ k d. refl;
  is_refused = λ k d. refl;
  loses = λ k d. refl;
  learns = λ k wires d. refl;
  waits = λ ms d. refl;
  asked = λ k d. refl;
  cleared = λ k d. refl;
  wish = λ k d. refl;
  wish_taken = λ k d. refl;
}

pub same : (mode : SetMode) (servers items queue : ℕ) (oldest : Bool) (lines : List Line)
    → (messages_after mode servers items queue oldest lines).client ≡ (recorded_after mode servers items queue oldest lines).client.node.talk
same mode servers items queue oldest lines =
    sym (ap (λ (w : SetState Server Client (List WireState)). w.client)
    (forgotten nodes (noting recording) life_talk client_talk records (beginning mode servers items) (noted_life (recorded_life (beginning mode servers items)))
    (λ number boot current. refl) items lines servers (noted_client (recorded_client (learning.new_talk (client_config mode servers items queue oldest))))))

-- ---- the lives

pub lives : (still : (conn : ℕ) (happening : Happening) (s : ServerState) → MayHear (Other conn) happening → IsQuiet conn s
    → lockstep.IsTold (Other conn) (after happening s))
    (begins_quiet : (conn : ℕ) (config : ServerConfig) (current : List Change) → IsQuiet conn (new_server config current))
    (mode : SetMode) (servers items queue : ℕ) (oldest : Bool) (lines : List Line) (place : ℕ) → place + 1 ≤ servers
    → AllLived mode servers items (place + 1) (lives_after mode servers items queue oldest lines place)
lives still begins_quiet mode servers items queue oldest lines place within =
    let begins = noted_life (recorded_life (beginning mode servers items)) in
    let P = λ (place given : ℕ) (life : NotedLife RecordedLife WireState) (o : _). IsKept still begins_quiet mode servers items place given life o in
    lived still begins_quiet mode servers items place (lives_after mode servers items queue oldest lines place)
    (lives_keep (noting recording) begins P servers (lives_are_kept still begins_quiet mode servers items servers)
    (λ place life. IsLived mode servers items (place + 1) life) (is_lived still begins_quiet mode servers items) items lines
    (noted_client (recorded_client (learning.new_talk (client_config mode servers items queue oldest)))) place within)

-- ---- the client

urls_long : (servers : ℕ) → length (urls servers) ≡ servers
unfolding urls
urls_long zero = refl
urls_long (suc count) =
    let last = length-append (urls count) (Some (url_text (count + 1)) ∷ []) in let before = urls_long count in omega (arith, last, before)

links_long : (config : ClientConfig) → length (new_client config).links ≡ servers_of config
links_long config = dialled_long (idle_client config) ∙ length-replicate (servers_of config) (new_link (link_config config))

module _ (mode : SetMode) (servers items queue : ℕ) (oldest : Bool) where
  abbrev first_client : ClientState
  first_client = new_client (client_config mode servers items queue oldest)

  abbrev first_noted : NotedClient RecordedClient WireState
  first_noted = noted_client (recorded_client (learning.new_talk (client_config mode servers items queue oldest)))

  first_long : length first_client.links ≡ servers
  first_long = links_long (client_config mode servers items queue oldest) ∙ urls_long servers

  first_told : (q : ℕ) → q + 1 ≤ servers → Told servers first_client first_long q false first_noted
  first_told q within = record {
    is = within_is (q + 1) (length first_client.links) (omega arith) (subst (λ n. q + 1 ≤ n) (sym first_long) within);
    holds = λ now. absurd cc;
    dials_are = tt;
  }

  dials_of : (lines : List Line) (c : NotedClient RecordedClient WireState)
      → ((q : ℕ) → q + 1 ≤ servers → (b : Bool) × Told servers first_client first_long q b c)
      → (server place : ℕ) → server ≡ place + 1 → server ≤ servers → AreDialled (dials_after server c.node.moments first_client []) (c.dials server)
  dials_of lines c told server place same least =
      let x = told place (subst (λ n. n ≤ servers) same least) in
      subst (λ n. AreDialled (dials_after n c.node.moments first_client []) (c.dials n)) (sym same)
      (are_dialled x.0 (place + 1) c.node.talk (dials_after (place + 1) c.node.moments first_client []) (c.dials (place + 1)) x.1)

  pub learned : (lines : List Line) → IsLearned mode servers items queue oldest (recorded_after mode servers items queue oldest lines).client
  learned lines =
      let told = Told servers first_client first_long in
      let kept = links_keep (noting recording) (IsStated first_client) told servers (state_kept first_client told servers) (links_kept servers first_client first_long)
      (noted_life (recorded_life (beginning mode servers items))) items lines first_noted (sym (at_none first_client)) first_told in
      record {
        state = kept.client;
        dialled = λ server first last. dials_of lines (recorded_after mode servers items queue oldest lines).client (λ q within. (_, kept.links q within)) server (server - 1) (next_is server first) last;
      }
    where
      next_is : (server : ℕ) → 1 ≤ server → server ≡ server - 1 + 1
      next_is server first = omega (arith, first)
