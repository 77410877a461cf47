-- What a client's acts tell of one server, and the life of a link alone that it is.
use Rattle.std.specs.Prelude.{◌≡◌, ◌⊎◌, ◌≤◌, ℕ, ◌+◌, ◌==◌, List, [], ◌∷◌, ◌++◌, map, if◌then◌else◌}
use Rattle.ua_base.specs.declared.modes.Mode.TheVariants.{Disabled}
use Rattle.ua_base.specs.declared.modes.SetMode.{SetMode}
use Rattle.ua_base.specs.declared.modes.SetMode.TheVariants.{Hot, Cold}
use Rattle.ua_channel.specs.declared.heard.Heard.{Heard}
use Rattle.link_rules.specs.declared.notice.Notice.{Notice}
use Rattle.link_rules.specs.State.{LinkState, new_link}
use Rattle.link_rules.specs.Said.{Said}
use Rattle.link_rules.specs.Step as alone
use Rattle.link_laws.specs.Asked.{NeverWants}
use Rattle.link_laws.specs.Counted.{ticks_in}
use Rattle.client_rules.specs.declared.config.ClientConfig.{ClientConfig}
use Rattle.client_rules.specs.State.{link_config, link_of}
use Rattle.client_rules.specs.Acts.{ClientAct, Happening, Happened, Tells, Says, Opens, Hears, Ticks}
use Rattle.client_rules.specs.Step.{Ends, Goes, Moment, Takes, new_client}
use Rattle.client_laws.specs.Life.{acts_of, client_after}
use Rattle.client_links.specs.Awaited.{AllAwaited, AreAwaited}

-- ---- what its link tells

abbrev pub told_in : ℕ → ClientAct → List Notice
told_in server (Tells s n) = if s == server then n ∷ [] else []
told_in server other = []

-- by these acts, in their order
abbrev pub told_of : ℕ → List ClientAct → List Notice
told_of server [] = []
told_of server (act ∷ acts) = told_in server act ++ told_of server acts

-- ---- what passes on its connections

-- one is opened; something is heard on it; something is said on it
pub data Passing : Type 0 where
  Opened : Passing
  Took : Heard → Passing
  Put : Said → Passing

abbrev pub begun_with : ℕ → Happening → List Passing
begun_with server (Opens s) = if s == server then Opened ∷ [] else []
begun_with server (Hears s h) = if s == server then Took h ∷ [] else []
begun_with server other = []

abbrev pub passing_in : ℕ → ClientAct → List Passing
passing_in server (Happened happening) = begun_with server happening
passing_in server (Says s said) = if s == server then Put said ∷ [] else []
passing_in server other = []

-- by these acts, in their order
abbrev pub passed_in : ℕ → List ClientAct → List Passing
passed_in server [] = []
passed_in server (act ∷ acts) = passing_in server act ++ passed_in server acts

-- the same of a link alone
abbrev pub begun_by : alone.Happening → List Passing
begun_by (alone.Opens url) = Opened ∷ []
begun_by (alone.Hears h) = Took h ∷ []
begun_by other = []

-- what happens comes first, and what it says of it follows
abbrev pub passed_by : List alone.Happening → LinkState → List Passing
passed_by [] l = []
passed_by (h ∷ more) l =
    begun_by h ++ map Put (alone.after h l).said ++ passed_by more (alone.after h l).link

-- ---- time

abbrev pub tick_by : Happening → ℕ
tick_by (Ticks ms) = 1
tick_by other = 0

abbrev pub tick_of : Moment → ℕ
tick_of (Goes happening) = tick_by happening
tick_of Ends = 0
tick_of (Takes other) = 0

-- at how many of these moments time passes
abbrev pub ticks_at : List Moment → ℕ
ticks_at [] = 0
ticks_at (moment ∷ moments) = tick_of moment + ticks_at moments

-- ---- a life

-- in these no server's items are ever wanted to be off
abbrev pub IsHotOrCold : SetMode → Type 0
IsHotOrCold set = (set ≡ Hot) ⊎ (set ≡ Cold)

-- these happenings make of a link that begins what the client's link to the server is, with all that is told of it and all
-- that passes; and what comes to the link is awaited where what comes to the client is, and time passes
-- for it at most as often as for the client
pub record IsLinkLife (server : ℕ) (config : ClientConfig) (moments : List Moment) : Type 0 where
  pub happenings : List alone.Happening
  pub link : link_of server (client_after config moments)
      ≡ (alone.after_all happenings (new_link (link_config config))).link
  pub told : told_of server (acts_of config moments)
      ≡ (alone.after_all happenings (new_link (link_config config))).notices
  pub passed : passed_in server (acts_of config moments) ≡ passed_by happenings (new_link (link_config config))
  pub ordinary : IsHotOrCold config.mode → NeverWants Disabled happenings
  pub awaited : AreAwaited server moments (new_client config) → AllAwaited happenings (new_link (link_config config))
  pub ticks : ticks_in happenings ≤ ticks_at moments
