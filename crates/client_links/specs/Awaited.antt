-- What comes on a server's connection comes where it is awaited: a connection is opened where it was wished for, and
-- something is heard where one stands and is heard.
use Rattle.std.specs.Prelude.{◌≡◌, ℕ, List, [], ◌∷◌, true, false}
use Rattle.ua_channel.specs.State.{is_deaf}
use Rattle.link_rules.specs.declared.phase.Phase.{Phase}
use Rattle.link_rules.specs.declared.phase.Phase.TheVariants as phase
use Rattle.link_rules.specs.Closing.{stands_in}
use Rattle.link_rules.specs.State.{LinkState}
use Rattle.link_rules.specs.Step as alone
use Rattle.client_rules.specs.State.{ClientState, link_of}
use Rattle.client_rules.specs.Acts.{Opens, Hears}
use Rattle.client_rules.specs.Step.{Ends, Goes, Moment, Takes, at_moment}

abbrev pub IsDialling : Phase → Type 0
IsDialling (phase.Dialing taken) = Unit {0}
IsDialling other = ⊥

-- ---- a link alone

abbrev pub IsAwaited : alone.Happening → LinkState → Type 0
IsAwaited (alone.Opens url) l = IsDialling l.phase
IsAwaited (alone.Hears h) l = (is_deaf (alone.ear_of l) ≡ false) × (stands_in l.phase ≡ true)
IsAwaited other l = Unit {0}

-- in each of these events
abbrev pub AllAwaited : List alone.Happening → LinkState → Type 0
AllAwaited [] l = Unit {0}
AllAwaited (h ∷ more) l = IsAwaited h l × AllAwaited more (alone.after h l).link

-- ---- a client's link to a server

abbrev pub IsAwaitedAt : ℕ → Moment → ClientState → Type 0
IsAwaitedAt server (Goes (Opens other)) c = other ≡ server → IsDialling (link_of server c).phase
IsAwaitedAt server (Goes (Hears other h)) c =
    other ≡ server → (is_deaf (alone.ear_of (link_of server c)) ≡ false) × (stands_in (link_of server c).phase ≡ true)
IsAwaitedAt server (Goes other) c = Unit {0}
IsAwaitedAt server Ends c = Unit {0}
IsAwaitedAt server (Takes other) c = Unit {0}

-- at each of these moments
abbrev pub AreAwaited : ℕ → List Moment → ClientState → Type 0
AreAwaited server [] c = Unit {0}
AreAwaited server (moment ∷ moments) c =
    IsAwaitedAt server moment c × AreAwaited server moments (at_moment moment c).client
