-- Whatever data come to a link are in the book.
use Rattle.std.proofs.Common.{◌≡◌, ℕ, List, [], ◌∷◌, ◌++◌, length, slice_get, None, Some, refl, sym, ap, ◌∙◌, subst, append_assoc, inl, inr}
use Rattle.std.specs.List.{AllByRecursion}
use Rattle.ua_channel.specs.declared.heard.Heard.{Heard}
use Rattle.ua_sub_msgs.specs.declared.notification.MonitoredItemNotification.{MonitoredItemNotification}
use Rattle.link_rules.specs.declared.config.LinkConfig.{LinkConfig}
use Rattle.link_rules.specs.declared.phase.Phase.TheVariants as phase
use Rattle.link_rules.specs.declared.remembered.Remembered.{Remembered}
use Rattle.link_rules.specs.State.{LinkState, new_link}
use Rattle.link_rules.specs.Step.{Happening, Hears, after, after_all}
use Rattle.link_keeps.specs.Fitting.{KeepsSaid}
use Rattle.link_laws.specs.Taken.{reply_of}
use Rattle.link_takings.specs.Exchange.{AsksAgain, Exchange, exchange_all, no_exchange}
use Rattle.link_takings.specs.From.{IsFrom}
use Rattle.link_following.specs.Book.{Book, BringsOf, ComeOf, InBook}
use Rattle.client_links.specs.Awaited.{AllAwaited}
use Rattle.client_links.specs.Links.{passed_by}
use Rattle.set_talks.specs.Lives.{put_on}
use Rattle.client_dials.specs.Behind.{IsHeardBehind}
use Rattle.client_dials.specs.Spoken.{Spoken, spoken_in}
use Rattle.set_talks.specs.Meetings.{AllShared, AreShared, IsShared, Life, Served, connections_of, served_by, start_of}
use Rattle.set_askings.specs.Once.{AllKept}
use Rattle.set_takings.specs.Booked.{IsBooked}
use Rattle.set_takings.proofs.Places.{IsHeardAt, all_behind, all_join, heard_at, place_behind}
use Rattle.set_takings.proofs.Sending.{PublishedWereSent, published_in_book}
use Rattle.set_takings.proofs.Repeating.{AnswersInTurn, HeardWereAsked, RepeatedWereKept, republished_in_book}

-- ---- what other crates say

abbrev pub HeardBehind : Type 0
HeardBehind = (config : LinkConfig) (front : List Happening) (h : Heard) (more : List Happening) → AllAwaited (front ++ Hears h ∷ more) (new_link config)
    → IsHeardBehind h (exchange_all front (new_link config) no_exchange) (spoken_in (passed_by (front ++ Hears h ∷ more) (new_link config)) [])

abbrev pub AskedAgain : Type 0
AskedAgain = (config : LinkConfig) (happenings : List Happening) (wanted : List ℕ) (r : Remembered)
    → (after_all happenings (new_link config)).link.phase ≡ phase.Republishing wanted
    → (after_all happenings (new_link config)).link.remembered ≡ Some r → AsksAgain r.id (exchange_all happenings (new_link config) no_exchange)

-- ---- the connections of lives

all_served : (book : Book) (life : Life) (numbers : List ℕ) → IsBooked book life → AllByRecursion (λ (served : Served). IsBooked book served.life) (served_by life numbers)
all_served book life [] booked = tt
all_served book life (number ∷ earlier) booked = (booked, all_served book life earlier booked)

all_booked : (book : Book) (lives : List Life) → AllByRecursion (IsBooked book) lives
    → AllByRecursion (λ (served : Served). IsBooked book served.life) (connections_of lives)
all_booked book [] booked = tt
all_booked book (life ∷ earlier) booked =
    all_join (λ (served : Served). IsBooked book served.life) (served_by life life.connections) (connections_of earlier)
    (all_served book life life.connections booked.0) (all_booked book earlier booked.1)

-- a connection of the link is one of a life
record IsMet (book : Book) (spoken : Spoken) : Type 0 where
  served : Served
  shared : IsShared spoken served
  booked : IsBooked book served.life

met : (book : Book) (newer : List Spoken) (spoken : Spoken) (older : List Spoken) (all : List Served) → AreShared (newer ++ spoken ∷ older) all
    → AllByRecursion (λ (served : Served). IsBooked book served.life) all → IsMet book spoken
met book [] spoken older [] are booked = absurd are
met book [] spoken older (served ∷ others) are booked = record { served = served; shared = are.0; booked = booked.0 }
met book (one ∷ newer) spoken older [] are booked = absurd are
met book (one ∷ newer) spoken older (served ∷ others) are booked = met book newer spoken older others are.1 booked.1

-- ---- one event more

after_one : (front : List Happening) (h : Happening) (l : LinkState) → (after_all (front ++ h ∷ []) l).link ≡ (after h (after_all front l).link).link
after_one [] h l = refl
after_one (first ∷ front) h l = after_one front h (after first l).link

-- nothing comes where no reply does
none_from : (id number : ℕ) (values : List MonitoredItemNotification) (h : Happening) (l : LinkState) → reply_of h ≡ None → IsFrom id number values h l → ⊥
none_from id number values h l none (inl x) = let comes = x.comes in absurd cc
none_from id number values h l none (inr x) = let comes = x.comes in absurd cc

-- ---- a link whose connections are those of lives

record IsOfLives (config : LinkConfig) (lives : List Life) (happenings : List Happening) : Type 0 where
  awaited : AllAwaited happenings (new_link config)
  shared : AllShared (spoken_in (passed_by happenings (new_link config)) []) lives
  kept : AllKept (spoken_in (passed_by happenings (new_link config)) [])

module _ (sent : PublishedWereSent) (asked : HeardWereAsked) (answers : AnswersInTurn) (repeated : RepeatedWereKept) (behind : HeardBehind) (again : AskedAgain)
    (config : LinkConfig) (lives : List Life) (book : Book) (booked : AllByRecursion (IsBooked book) lives) where
  brings_heard : (front : List Happening) (h : Heard) (more : List Happening) → IsOfLives config lives (front ++ Hears h ∷ more)
      → BringsOf book (Hears h) (after_all front (new_link config)).link
  brings_heard front h more x = λ r number values heeds remembers from. by_from r number values remembers from
    where
      b : IsHeardBehind h (exchange_all front (new_link config) no_exchange) (spoken_in (passed_by (front ++ Hears h ∷ more) (new_link config)) [])
      b = behind config front h more x.awaited

      e : Exchange
      e = exchange_all front (new_link config) no_exchange

      m : IsMet book b.spoken
      m = met book b.newer b.spoken b.older (connections_of lives) (subst (λ (all : List Spoken). AreShared all (connections_of lives)) b.are x.shared)
          (all_booked book lives booked)

      at : IsHeardAt h (length e.taken) (put_on m.served.number m.served.life.happenings (start_of m.served.life))
      at = heard_at b.spoken.heard (put_on m.served.number m.served.life.happenings (start_of m.served.life)) (length e.taken) h m.shared.back
          (ap (λ (l : List Heard). slice_get l (length e.taken)) b.heard ∙ place_behind e.taken h b.later)

      keeps : AllByRecursion KeepsSaid b.spoken.said
      keeps = (all_behind (λ (spoken : Spoken). AllByRecursion KeepsSaid spoken.said) b.newer (b.spoken ∷ b.older) (subst AllKept b.are x.kept)).0

      by_from : (r : Remembered) (number : ℕ) (values : List MonitoredItemNotification) → (after_all front (new_link config)).link.remembered ≡ Some r
          → IsFrom r.id number values (Hears h) (after_all front (new_link config)).link → InBook book r.id number values
      by_from r number values remembers (inl published) =
          published_in_book sent book m.served.life m.served.number (length e.taken) h r.id number values m.booked at published
      by_from r number values remembers (inr republished) =
          republished_in_book asked answers repeated book b.spoken m.served e b.others h r.id number values republished.response m.shared m.booked keeps b.put
          (again config front republished.wanted r republished.awaits remembers) at republished.comes republished.message

  brings : (front : List Happening) (h : Happening) (more : List Happening) → IsOfLives config lives (front ++ h ∷ more)
      → BringsOf book h (after_all front (new_link config)).link
  brings front (Hears h) more x = brings_heard front h more x
  brings front other more x = λ r number values heeds remembers from.
      absurd (none_from r.id number values other (after_all front (new_link config)).link refl from)

  come : (front more : List Happening) → IsOfLives config lives (front ++ more) → ComeOf book more (after_all front (new_link config)).link
  come front [] x = tt
  come front (h ∷ more) x = (
    brings front h more x,
    subst (λ (l : LinkState). ComeOf book more l) (after_one front h (new_link config))
        (come (front ++ h ∷ []) more (subst (λ (l : List Happening). IsOfLives config lives l) (sym (append_assoc front (h ∷ []) more)) x)),
  )

  pub come_of_the_book : (happenings : List Happening) → AllAwaited happenings (new_link config)
      → AllShared (spoken_in (passed_by happenings (new_link config)) []) lives → AllKept (spoken_in (passed_by happenings (new_link config)) [])
      → ComeOf book happenings (new_link config)
  come_of_the_book happenings awaited shared kept = come [] happenings (record { awaited = awaited; shared = shared; kept = kept })
