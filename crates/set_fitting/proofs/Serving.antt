-- All that happens to a life of a server fits, where what comes to it does.
use Rattle.std.proofs.Common.{◌<◌, ◌^◌, ℕ, ◌+◌, Bool, true, false, cond, List, [], ◌∷◌, Option, Some, None, is_some}
use Rattle.std.specs.List.{AllByRecursion}
use Rattle.ua_base.specs.declared.modes.SetMode.{SetMode}
use Rattle.set_model.specs.declared.source.Change.{Change}
use Rattle.ua_channel.specs.State.{WireState, is_deaf}
use Rattle.ua_channel.specs.Messages.{hearing_of}
use Rattle.message_ends.specs.Ends.{MessageEnd, MessageEnds, new_end}
use Rattle.message_ends.specs.Talk.{heard_one}
use Rattle.message_ends.specs.Showing.{AllBring}
use Rattle.server_rules.specs.declared.config.ServerConfig.{ServerConfig}
use Rattle.server_rules.specs.State.{ServerState, new_server}
use Rattle.server_rules.specs.Connecting.{is_above}
use Rattle.server_rules.specs.Said.{orders_of}
use Rattle.server_rules.specs.Step.{Closes, Feeds, Happening, Hears, Levels, Opens, Ticks, after, ears}
use Rattle.server_keeps.specs.Fitting.{FitsChange, FitsConfig, FitsHappening, FitsHeard, FitsServer}
use Rattle.server_messages.specs.Fitting.{Brings, ComesFit}
use Rattle.server_messages.specs.Messages as serving
use Rattle.server_messages.proofs.Rules.{Rules, brings, heard_brings, heard_keeps, keeps}
use Rattle.set_histories.specs.Below.{Server, server_config, NotedLife}
use Rattle.set_histories.specs.Recording.{RecordedLife, closes_in, heard_here, heard_in, opens_in}
use Rattle.set_fitting.proofs.Talking.{EndBrings, TalkKeeps, all_keep, cut_brings, obeyed, set_brings}

abbrev pub Keeps : Server → Type 0
Keeps t = TalkKeeps FitsServer Brings t

-- ---- a life begins

pub begins : ((config : ServerConfig) (current : List Change) → FitsConfig config → AllByRecursion FitsChange current → FitsServer (new_server config current))
    → (config : ServerConfig) (current : List Change) → FitsConfig config → AllByRecursion FitsChange current → Keeps (serving.new_talk config current)
begins first config current fits all = record { hub = first config current fits all; puts = λ k. tt }

module _ (law : Rules) where
  happened : (happening : Happening) (ends : MessageEnds) (s : ServerState) → FitsServer s → FitsHappening happening → ((k : ℕ) → EndBrings Brings (ends k))
      → Keeps (serving.with_ends ends (after happening s))
  happened happening ends s fits is puts =
      obeyed FitsServer Brings (orders_of (after happening s).said) (after happening s).state ends (keeps law happening s fits is) (brings law happening s fits is) puts

  -- ---- connections

  pub opened : (conn : ℕ) (t : Server) → Keeps t → Keeps (serving.opened conn t)
  opened conn t x = by_test (is_above t.hub.highest conn)
    where
      by_test : (b : Bool) → Keeps (cond b (serving.with_ends (serving.end_opened conn t.ends) (after (Opens conn) t.hub)) t)
      by_test true =
          happened (Opens conn) (serving.end_opened conn t.ends) t.hub x.hub tt
          (λ k. cut_brings Brings (is_some (t.ends conn)) conn k (Some new_end) t.ends tt (x.puts k))
      by_test false = x

  pub closed : (conn : ℕ) (t : Server) → Keeps t → Keeps (serving.closed conn t)
  closed conn t x = by_test (is_some (t.ends conn))
    where
      by_test : (b : Bool) → Keeps (cond b (serving.with_ends (serving.end_closed conn t.ends) (after (Closes conn) t.hub)) t)
      by_test true =
          happened (Closes conn) (serving.end_closed conn t.ends) t.hub x.hub tt (λ k. set_brings Brings conn k None t.ends tt (x.puts k))
      by_test false = x

  pub opens_fit : (conn : ℕ) (t : Server) (past : List Happening) → AllByRecursion FitsHappening past → AllByRecursion FitsHappening (opens_in conn t past)
  opens_fit conn t past all = by_test (is_above t.hub.highest conn)
    where
      by_test : (b : Bool) → AllByRecursion FitsHappening (cond b (Opens conn ∷ past) past)
      by_test true = (tt, all)
      by_test false = all

  pub closes_fit : (conn : ℕ) (t : Server) (past : List Happening) → AllByRecursion FitsHappening past → AllByRecursion FitsHappening (closes_in conn t past)
  closes_fit conn t past all = by_test (is_some (t.ends conn))
    where
      by_test : (b : Bool) → AllByRecursion FitsHappening (cond b (Closes conn ∷ past) past)
      by_test true = (tt, all)
      by_test false = all

  -- ---- messages

  pub heard : (conn : ℕ) (wires : List WireState) (t : Server) → AllBring ComesFit wires → Keeps t → Keeps (serving.heard conn wires t)
  heard conn wires t fits x = all_keep ears serving.answers FitsServer FitsHeard Brings (heard_keeps law) (heard_brings law) conn wires t fits x

  here_fits : (o : Option MessageEnd) (conn : ℕ) (wire : WireState) (t : Server) (past : List Happening) → ComesFit wire → AllByRecursion FitsHappening past
      → AllByRecursion FitsHappening (heard_here o conn wire t past)
  here_fits None conn wire t past fits all = all
  here_fits (Some e) conn wire t past fits all = by_test (is_deaf (ears conn t.hub))
    where
      by_test : (b : Bool) → AllByRecursion FitsHappening (cond b past (Hears conn (hearing_of (ears conn t.hub) wire e.tokens).heard ∷ past))
      by_test true = all
      by_test false = (fits (ears conn t.hub) e.tokens, all)

  pub heard_fit : (conn : ℕ) (wires : List WireState) (t : Server) (past : List Happening) → AllBring ComesFit wires → AllByRecursion FitsHappening past
      → AllByRecursion FitsHappening (heard_in conn wires t past)
  heard_fit conn [] t past fits all = all
  heard_fit conn (wire ∷ wires) t past fits all =
      heard_fit conn wires (heard_one ears serving.answers conn wire t) (heard_here (t.ends conn) conn wire t past) fits.1
      (here_fits (t.ends conn) conn wire t past fits.0 all)

  -- ---- what else happens

  pub fed : (change : Change) (t : Server) → FitsChange change → Keeps t → Keeps (serving.fed change t)
  fed change t fits x = happened (Feeds change) t.ends t.hub x.hub fits x.puts

  pub ticked : (ms : ℕ) (t : Server) → Keeps t → Keeps (serving.ticked ms t)
  ticked ms t x = happened (Ticks ms) t.ends t.hub x.hub tt x.puts

  pub leveled : (level : ℕ) (t : Server) → level < 2 ^ 8 → Keeps t → Keeps (serving.leveled level t)
  leveled level t fits x = happened (Levels level) t.ends t.hub x.hub fits x.puts

-- ---- a life with all that happened to it

pub record LifeKeeps (mode : SetMode) (servers items place : ℕ) (life : NotedLife RecordedLife WireState) : Type 0 where
  pub config : FitsConfig (server_config mode servers items (place + 1) life.boot)
  pub current : AllByRecursion FitsChange life.current
  pub happenings : AllByRecursion FitsHappening life.node.happenings
  pub talk : Keeps life.node.talk
