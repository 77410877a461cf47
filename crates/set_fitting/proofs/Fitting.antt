-- All that happens in a set fits the wire, after any lines that do.
use Rattle.std.proofs.Common.{◌≤◌, ◌<◌, ◌^◌, ◌+◌, ℕ, Bool, List, [], ◌∷◌}
use Rattle.std.specs.List.{AllByRecursion}
use Rattle.ua_base.specs.declared.modes.SetMode.{SetMode}
use Rattle.set_model.specs.declared.source.Change.{Change}
use Rattle.scenario.specs.declared.line.Line.{Line}
use Rattle.scenario.specs.declared.line.Line.TheVariants as line
use Rattle.ua_channel.specs.State.{WireState}
use Rattle.message_ends.specs.Showing.{AllBring}
use Rattle.server_rules.specs.declared.config.ServerConfig.{ServerConfig}
use Rattle.server_rules.specs.State.{new_server}
use Rattle.server_keeps.specs.Fitting.{FitsChange, FitsConfig, FitsServer}
use Rattle.server_messages.specs.Fitting as server_messages
use Rattle.server_messages.proofs.Rules.{Rules}
use Rattle.client_rules.specs.Acts as acts
use Rattle.client_rules.specs.Step.{Goes, Takes}
use Rattle.client_keeps.specs.Fitting as client_keeps
use Rattle.client_messages.specs.Messages as learning
use Rattle.client_messages.specs.Showing as client_messages
use Rattle.set_rules.specs.World.{Beginning}
use Rattle.set_histories.specs.Below.{client_config, server_config, FitsLine, beginning, NotedClient, NotedLife, noted_client, noted_life, noting}
use Rattle.set_histories.specs.Recording.{RecordedClient, RecordedLife, recorded_client, recorded_life, recording}
use Rattle.set_histories.specs.Histories.{lives_after, recorded_after}
use Rattle.set_fitting.specs.Fits.{AllFit}
use Rattle.set_fitting.proofs.Configs.{client_config_fits, server_config_fits}
use Rattle.set_fitting.proofs.Learning as client
use Rattle.set_fitting.proofs.Learning.{ClientKeeps}
use Rattle.set_fitting.proofs.Serving as server
use Rattle.set_fitting.proofs.Serving.{LifeKeeps}
use Rattle.set_fitting.proofs.Talking.{emptied, join_brings}
use Rattle.set_fitting.proofs.Walking as walking
use Rattle.set_fitting.proofs.Walking.{AreBegun, AreKept, LineIs, LinesAre}

abbrev IsLevel : ℕ → Type 0
IsLevel level = level < 2 ^ 8

abbrev There : List WireState → Type 0
There wires = AllBring client_messages.Brings wires

abbrev Back : List WireState → Type 0
Back wires = AllBring server_messages.Brings wires

abbrev ClientFits : ℕ → NotedClient RecordedClient WireState → Type 0
ClientFits age c = ClientKeeps c

module _ (law : Rules)
    (first : (config : ServerConfig) (current : List Change) → FitsConfig config → AllByRecursion FitsChange current → FitsServer (new_server config current))
    (mode : SetMode) (servers items : ℕ) where
  abbrev begin_lives : Beginning (NotedLife RecordedLife WireState)
  begin_lives = noted_life (recorded_life (beginning mode servers items))

  abbrev Life : ℕ → NotedLife RecordedLife WireState → Type 0
  Life place life = LifeKeeps mode servers items place life

  abbrev AreFitting : Type 0
  AreFitting = AreKept (noting recording) begin_lives items FitsChange IsLevel There Back Life ClientFits

  are_fitting : AreFitting
  are_fitting = record {
    there_none = tt;
    back_none = tt;
    there_joined = λ wires more x y. join_brings client_messages.Brings wires more x y;
    back_joined = λ wires more x y. join_brings server_messages.Brings wires more x y;
    accepts = λ place number life x. record {
      config = x.config;
      current = x.current;
      happenings = server.opens_fit law number life.node.talk life.node.happenings x.happenings;
      talk = server.opened law number life.node.talk x.talk;
    };
    ends = λ place number life x. record {
      config = x.config;
      current = x.current;
      happenings = server.closes_fit law number life.node.talk life.node.happenings x.happenings;
      talk = server.closed law number life.node.talk x.talk;
    };
    hears = λ place number wires life come x. record {
      config = x.config;
      current = x.current;
      happenings = server.heard_fit law number wires life.node.talk life.node.happenings come x.happenings;
      talk = server.heard law number wires life.node.talk come x.talk;
    };
    feeds = λ place change life is x. record {
      config = x.config;
      current = x.current;
      happenings = (is, x.happenings);
      talk = server.fed law change life.node.talk is x.talk;
    };
    ticks = λ place ms life x. record {
      config = x.config;
      current = x.current;
      happenings = (tt, x.happenings);
      talk = server.ticked law ms life.node.talk x.talk;
    };
    levels = λ place level life is x. record {
      config = x.config;
      current = x.current;
      happenings = (is, x.happenings);
      talk = server.leveled law level life.node.talk is x.talk;
    };
    answered = λ place number life x. x.talk.puts number;
    emptied = λ place number life x. record {
      config = x.config;
      current = x.current;
      happenings = x.happenings;
      talk = emptied FitsServer server_messages.Brings number life.node.talk x.talk;
    };
    connects = λ age number c x. record {
      moments = client.event_moments number c (Goes (acts.Opens number) ∷ []) (tt, tt) x;
      talk = client.connects number c.node.talk x.talk;
    };
    is_refused = λ age number c x. record {
      moments = client.event_moments number c (Goes (acts.Refuses number) ∷ []) (tt, tt) x;
      talk = client.is_refused number c.node.talk x.talk;
    };
    loses = λ age number c x. record {
      moments = client.event_moments number c (Goes (acts.Closes number) ∷ []) (tt, tt) x;
      talk = client.closes number c.node.talk x.talk;
    };
    learns = λ age number wires c come x. record {
      moments = client.learned_moments number wires c come x;
      talk = client.hears number wires c.node.talk come x.talk;
    };
    waits = λ age ms c x. record {
      moments = client.waited_moments ms c x;
      talk = client.waits ms c.node.talk x.talk;
    };
    later = λ age c x. x;
    asked = λ age number c x. x.talk.puts number;
    cleared = λ age number c x. record {
      moments = x.moments;
      talk = emptied client_keeps.FitsClient client_messages.Brings number c.node.talk x.talk;
    };
    wish_taken = λ age number c x. record {
      moments = client.join_fits c.node.moments (Takes number ∷ []) x.moments (tt, tt);
      talk = client.wish_taken number c.node.talk x.talk;
    };
  }

  -- ---- lines

  line_fits : (l : Line) → FitsLine l
      → LineIs (noting recording) begin_lives items FitsChange IsLevel There Back Life ClientFits l
  line_fits (line.Change change) fits = fits
  line_fits (line.Level server level) fits = fits
  line_fits other fits = tt

  lines_fit : (lines : List Line) → AllByRecursion FitsLine lines
      → LinesAre (noting recording) begin_lives items FitsChange IsLevel There Back Life ClientFits servers are_fitting lines
  lines_fit [] fits = tt
  lines_fit (l ∷ lines) fits = (line_fits l fits.0, lines_fit lines fits.1)

  -- ---- a set that begins

  begun : servers ≤ 8 → AreBegun (noting recording) begin_lives items FitsChange IsLevel There Back Life ClientFits servers (λ place. Unit {0})
  begun few place boot current here may small all =
      let config = server_config_fits mode servers items (place + 1) boot few small in
      record { config = config; current = all; happenings = tt; talk = server.begins first (server_config mode servers items (place + 1) boot) current config all }

  first_client : (queue : ℕ) (oldest : Bool) → servers ≤ 8 → items < 2 ^ 8 → queue < 2 ^ 32
      → ClientKeeps (noted_client (recorded_client (learning.new_talk (client_config mode servers items queue oldest))))
  first_client queue oldest few some long = record {
    moments = tt;
    talk = client.begins (client_config mode servers items queue oldest) (client_config_fits mode servers items queue oldest few some long);
  }

  -- ---- in the words of the law

  all_fit : (place : ℕ) (lives : List (NotedLife RecordedLife WireState))
      → walking.AllKept (noting recording) begin_lives items FitsChange IsLevel There Back Life ClientFits place lives
      → AllFit mode servers items (place + 1) lives
  all_fit place [] all = tt
  all_fit place (life ∷ lives) all =
      (record { config = all.0.config; current = all.0.current; happenings = all.0.happenings }, all_fit place lives all.1)

  pub lives_fit : (queue : ℕ) (oldest : Bool) (lines : List Line) → servers ≤ 8 → items < 2 ^ 8 → queue < 2 ^ 32 → AllByRecursion FitsLine lines
      → (place : ℕ) → place + 1 ≤ servers → AllFit mode servers items (place + 1) (lives_after mode servers items queue oldest lines place)
  lives_fit queue oldest lines few some long fits place within =
      all_fit place (lives_after mode servers items queue oldest lines place)
      (walking.lives_keep (noting recording) begin_lives items FitsChange IsLevel There Back Life ClientFits servers are_fitting (begun few)
      lines (noted_client (recorded_client (learning.new_talk (client_config mode servers items queue oldest)))) place within (lines_fit lines fits)
      (first_client queue oldest few some long))

  pub client_fits : (queue : ℕ) (oldest : Bool) (lines : List Line) → servers ≤ 8 → items < 2 ^ 8 → queue < 2 ^ 32 → AllByRecursion FitsLine lines
      → client_keeps.FitsConfig (client_config mode servers items queue oldest)
      × AllByRecursion client_keeps.FitsMoment (recorded_after mode servers items queue oldest lines).client.node.moments
  client_fits queue oldest lines few some long fits = (
    client_config_fits mode servers items queue oldest few some long,
    (walking.client_keeps (noting recording) begin_lives items FitsChange IsLevel There Back Life ClientFits servers are_fitting (begun few)
        lines (noted_client (recorded_client (learning.new_talk (client_config mode servers items queue oldest)))) (lines_fit lines fits)
        (first_client queue oldest few some long)).moments,
  )
