-- Which message on a connection answers which one that was heard there.
use Rattle.std.specs.Prelude.{◌≡◌, ℕ, ◌==◌, List, [], ◌∷◌, ◌++◌, length, false, if◌then◌else◌}
use Rattle.ua_channel.specs.declared.heard.Heard.{Heard}
use Rattle.ua_channel.specs.Orders.{puts_of}
use Rattle.ua_channel.specs.Sharing.{own}
use Rattle.ua_channel.specs.State.{WireState, is_deaf}
use Rattle.server_rules.specs.State.{ServerState}
use Rattle.server_rules.specs.Said.{orders_of}
use Rattle.server_rules.specs.Step.{Happening, Hears, after, ears}
use Rattle.server_rules.specs.Acts.{state_after}
use Rattle.server_laws.specs.Course.{said_after}
use Rattle.server_laws.specs.Lockstep.{IsNoPublish}

-- ---- what passes on a connection of a life, of which all that happened is told newest first

abbrev pub heard_by : ℕ → Happening → List Heard
heard_by conn (Hears other h) = if other == conn then h ∷ [] else []
heard_by conn other = []

-- what was heard on a connection, in order
abbrev pub heard_on : ℕ → List Happening → List Heard
heard_on conn [] = []
heard_on conn (happening ∷ earlier) = heard_on conn earlier ++ heard_by conn happening

-- the messages that were put on it, in order
abbrev pub puts_on : ℕ → List Happening → ServerState → List WireState
puts_on conn happenings s = puts_of (own conn (orders_of (said_after happenings s)))

-- each message is heard where its connection isn't deaf
abbrev pub AreHeard : List Happening → ServerState → Type 0
AreHeard [] s = Unit {0}
AreHeard (Hears conn h ∷ earlier) s = (is_deaf (ears conn (state_after earlier s)) ≡ false) × AreHeard earlier s
AreHeard (other ∷ earlier) s = AreHeard earlier s

-- ---- answers

-- none of these is a Publish, which waits for its answer
abbrev pub AreNoPublish : List Heard → Type 0
AreNoPublish [] = Unit {0}
AreNoPublish (h ∷ more) = IsNoPublish h × AreNoPublish more

-- the message put at a place of a connection answers the one that was heard at that place: it is all that was put there then
pub record IsAnswer (conn place : ℕ) (wire : WireState) (happenings : List Happening) (s : ServerState) : Type 0 where
  pub later : List Happening
  pub heard : Heard
  pub earlier : List Happening
  pub are : happenings ≡ later ++ Hears conn heard ∷ earlier
  pub place_is : length (heard_on conn earlier) ≡ place
  pub puts : puts_of (own conn (orders_of (after (Hears conn heard) (state_after earlier s)).said)) ≡ wire ∷ []
