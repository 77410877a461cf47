-- Each connection of a life is one on which the link spoke.
use Rattle.std.proofs.Common.{ℕ, ◌≤◌, List, [], ◌∷◌, ◌++◌, arith}
use Rattle.std.specs.List.{AllByRecursion}
use Rattle.ua_base.specs.declared.modes.Mode.TheVariants.{Disabled}
use Rattle.ua_channel.specs.declared.heard.Heard.{Heard}
use Rattle.ua_channel.specs.Orders.{puts_of}
use Rattle.server_rules.specs.Said.{Said as ServerSaid}
use Rattle.server_laws.specs.Course.{said_after}
use Rattle.server_tellings.proofs.Hearing.{IsSaidAgain}
use Rattle.link_keeps.specs.Fitting.{KeepsSaid}
use Rattle.link_laws.specs.Asked.{NeverAsks, items_put}
use Rattle.link_rules.specs.declared.config.LinkConfig.{LinkConfig}
use Rattle.link_rules.specs.Said.{Said, orders_of}
use Rattle.link_takings.specs.Exchange.{messages_of}
use Rattle.set_talks.specs.Heard.{AreHeardOf}
use Rattle.set_talks.specs.Lives.{heard_on}
use Rattle.client_dials.specs.Making.{AsksForMade, asks_for, makes_in}
use Rattle.client_dials.specs.Spoken.{Spoken}
use Rattle.client_askings.specs.Reading.{AreReadAs}
use Rattle.set_talks.specs.Meetings.{AreShared, IsShared, Life, Served, served_by, start_of}
use Rattle.set_askings.proofs.Hearing.{IsGoodHeard, IsHeardThere, asks_by_all, heard_there}
use Rattle.set_askings.proofs.Making.{makes_few, makes_on}
use Rattle.set_askings.proofs.Speaking.{IsOnSpoken}
use Rattle.set_askings.specs.Once.{AllKept}

-- what is known of each connection of the link
pub record IsGoodSpoken (config : LinkConfig) (spoken : Spoken) : Type 0 where
  pub kept : AllByRecursion KeepsSaid spoken.said
  pub made : AsksForMade config spoken
  pub on : NeverAsks Disabled spoken.said

pub good_spoken : (config : LinkConfig) (all : List Spoken) → AllKept all → AllByRecursion (AsksForMade config) all → AllByRecursion IsOnSpoken all
    → AllByRecursion (IsGoodSpoken config) all
good_spoken config [] kept made on = tt
good_spoken config (spoken ∷ all) kept made on =
    (record { kept = kept.0; made = made.0; on = on.0 }, good_spoken config all kept.1 made.1 on.1)

-- a connection of a life is one of the link's
pub record IsSpokenOn (config : LinkConfig) (served : Served) : Type 0 where
  pub spoken : Spoken
  pub shared : IsShared spoken served
  pub good : IsGoodSpoken config spoken

pub each_spoken : (config : LinkConfig) (all : List Spoken) (others : List Served) → AreShared all others → AllByRecursion (IsGoodSpoken config) all
    → AllByRecursion (IsSpokenOn config) others
each_spoken config all [] shared good = tt
each_spoken config [] (served ∷ others) shared good = absurd shared
each_spoken config (spoken ∷ all) (served ∷ others) shared good =
    (record { spoken = spoken; shared = shared.0; good = good.0 }, each_spoken config all others shared.1 good.1)

-- ---- by lives

pub front_of : {A : Type 0} (P : A → Type 0) (one other : List A) → AllByRecursion P (one ++ other) → AllByRecursion P one
front_of P [] other all = tt
front_of P (x ∷ one) other all = (all.0, front_of P one other all.1)

pub back_of : {A : Type 0} (P : A → Type 0) (one other : List A) → AllByRecursion P (one ++ other) → AllByRecursion P other
back_of P [] other all = all
back_of P (x ∷ one) other all = back_of P one other all.1

-- ---- what it means for a life

-- items are asked for on a connection no more often than subscriptions were made there, and as a link asks for them
pub record IsServedWell (config : LinkConfig) (life : Life) (number : ℕ) : Type 0 where
  pub good : AllByRecursion (IsGoodHeard config) (heard_on number life.happenings)
  pub few : (id : ℕ) → asks_by_all id (heard_on number life.happenings) ≤ makes_on id (said_after life.happenings (start_of life)) number

abbrev pub ReadsSo : Type 0
ReadsSo = (said : List Said) (hs : List Heard) → AllByRecursion KeepsSaid said → AreHeardOf hs (puts_of (orders_of said)) → AreReadAs hs (messages_of said)

served_well : ReadsSo → (config : LinkConfig) (life : Life) (number : ℕ) → AllByRecursion IsSaidAgain (said_after life.happenings (start_of life))
    → IsSpokenOn config (record { life = life; number = number }) → IsServedWell config life number
served_well reads config life number again is =
    let said : List Said = is.spoken.said in
    let hs : List Heard = heard_on number life.happenings in
    let all : List ServerSaid = said_after life.happenings (start_of life) in
    let there : IsHeardThere config hs said =
    heard_there config hs said (reads said hs is.good.kept is.shared.there) is.good.made.standard is.good.on in
    record {
      good = there.good;
      few = λ id.
          let one : asks_by_all id hs ≤ asks_for id (items_put said) = there.few id in
          let two : asks_for id (items_put said) ≤ makes_in id is.spoken.heard = is.good.made.few id in
          let three : makes_in id is.spoken.heard ≤ makes_on id all number = makes_few id number all is.spoken.heard again is.shared.back in
          omega arith;
    }

pub all_served : ReadsSo → (config : LinkConfig) (life : Life) (numbers : List ℕ) → AllByRecursion IsSaidAgain (said_after life.happenings (start_of life))
    → AllByRecursion (IsSpokenOn config) (served_by life numbers) → AllByRecursion (IsServedWell config life) numbers
all_served reads config life [] again all = tt
all_served reads config life (number ∷ numbers) again all =
    (served_well reads config life number again all.0, all_served reads config life numbers again all.1)
