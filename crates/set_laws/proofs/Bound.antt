-- Lives whose messages are bound in books, one behind another.
use Rattle.std.proofs.Common.{◌≡◌, ℕ, ◌*◌, ◌<◌, ◌≤◌, ◌-◌, ◌^◌, List, [], ◌∷◌, length, ap, ◌∙◌, arith}
use Rattle.std.specs.Prelude.{slice_get}
use Rattle.std.proofs.Math.Nat.{mul-le-mul_left}
use Rattle.std.specs.List.{AllByRecursion}
use Rattle.set_model.specs.declared.source.Change.{Change}
use Rattle.ua_sub_msgs.specs.declared.notification.MonitoredItemNotification.{MonitoredItemNotification}
use Rattle.server_keeps.specs.Fitting.{FitsChange, FitsConfig, FitsHappening}
use Rattle.server_answers.specs.Turns.{AreHeard}
use Rattle.link_following.specs.Book.{AreLinkedValues, Book, IsSound, joined, values_of}
use Rattle.whole_books.specs.Whole.{AreOfBoot, IsOfBoot, IsWhole}
use Rattle.set_talks.specs.Meetings.{Life, start_of}
use Rattle.set_takings.specs.Booked.{IsBooked}
use Rattle.set_laws.proofs.Finding.{Volume, book_in, earlier_book, found_has, own_book}

pub record IsBound (items : ℕ) (source : List Change) (life : Life) : Type 0 where
  pub config : FitsConfig life.config
  pub current : AllByRecursion FitsChange life.current
  pub happenings : AllByRecursion FitsHappening life.happenings
  pub heard : AreHeard life.happenings (start_of life)
  pub book : Book
  pub whole : (id : ℕ) → IsWhole id items source life.happenings (start_of life) (book id)
  pub own : AreOfBoot life.config.boot life.happenings (start_of life)

-- boot numbers fall
abbrev pub AreUnder : ℕ → List Life → Type 0
AreUnder boot [] = Unit {0}
AreUnder boot (life ∷ lives) = (life.config.boot < boot) × AreUnder boot lives

abbrev pub AreFalling : List Life → Type 0
AreFalling [] = Unit {0}
AreFalling (life ∷ lives) = AreUnder life.config.boot lives × AreFalling lives

module _ (items : ℕ) (source : List Change) where
  abbrev pub volumes_of : (lives : List Life) → AllByRecursion (IsBound items source) lives → List Volume
  volumes_of [] all = []
  volumes_of (life ∷ lives) all = record { boot = life.config.boot; book = all.0.book } ∷ volumes_of lives all.1

  -- the book of each life's ids is its own
  abbrev pub AllIn : Book → (lives : List Life) → AllByRecursion (IsBound items source) lives → Type 0
  AllIn book [] all = Unit {0}
  AllIn book (life ∷ lives) all = ((id : ℕ) → IsOfBoot life.config.boot id → book id ≡ all.0.book id) × AllIn book lives all.1

  later_in : (book other : Book) (boot : ℕ) (lives : List Life) (all : AllByRecursion (IsBound items source) lives) → AreUnder boot lives
      → ((earlier id : ℕ) → earlier < boot → IsOfBoot earlier id → other id ≡ book id) → AllIn book lives all → AllIn other lives all
  later_in book other boot [] all under same have = tt
  later_in book other boot (life ∷ lives) all under same have =
      (λ id own. same life.config.boot id under.0 own ∙ have.0 id own, later_in book other boot lives all.1 under.1 same have.1)

  pub all_in : (lives : List Life) (all : AllByRecursion (IsBound items source) lives) → AreFalling lives → AllIn (book_in (volumes_of lives all)) lives all
  all_in [] all falling = tt
  all_in (life ∷ lives) all falling =
      let v : Volume = record { boot = life.config.boot; book = all.0.book } in
      let more = volumes_of lives all.1 in (
        λ id own. own_book v more id own,
        later_in (book_in more) (book_in (v ∷ more)) life.config.boot lives all.1 falling.0
            (λ earlier id less own. earlier_book v more earlier id less own) (all_in lives all.1 falling.1),
      )

  one_booked : (book : Book) (life : Life) (b : IsBound items source life) → ((id : ℕ) → IsOfBoot life.config.boot id → book id ≡ b.book id) → IsBooked book life
  one_booked book life b same = record {
    config = b.config;
    current = b.current;
    happenings = b.happenings;
    heard = b.heard;
    sent = λ id number values was.
        let x = (b.whole id).sent number values was in
        (x.0, ap (λ l. slice_get l x.0) (same id (b.own.sent id number values was)) ∙ x.1, x.2);
    kept = λ later earlier id asked number message values are kept has.
        let x = (b.whole id).kept later earlier asked number message values are kept has in
        (x.0, ap (λ l. slice_get l x.0) (same id (b.own.kept later earlier id asked message are kept)) ∙ x.1, x.2);
  }

  each_booked : (book : Book) (lives : List Life) (all : AllByRecursion (IsBound items source) lives) → AllIn book lives all → AllByRecursion (IsBooked book) lives
  each_booked book [] all have = tt
  each_booked book (life ∷ lives) all have = (one_booked book life all.0 have.0, each_booked book lives all.1 have.1)

  pub all_booked : (lives : List Life) (all : AllByRecursion (IsBound items source) lives) → AreFalling lives
      → AllByRecursion (IsBooked (book_in (volumes_of lives all))) lives
  all_booked lives all falling = each_booked (book_in (volumes_of lives all)) lives all (all_in lives all falling)

  -- ---- sound books

  all_linked : (id item : ℕ) (lives : List Life) (all : AllByRecursion (IsBound items source) lives)
      → AllByRecursion (λ (v : Volume). AreLinkedValues source item (values_of item (joined (v.book id)))) (volumes_of lives all)
  all_linked id item [] all = tt
  all_linked id item (life ∷ lives) all = ((all.0.whole id).linked item, all_linked id item lives all.1)

  few_of : (size many known : ℕ) → many < 256 → size ≤ many * known → known ≤ 200000 → size < 2 ^ 32 - 1
  few_of size many known few most less =
      let wide : many * known ≤ many * 200000 = mul-le-mul_left many less in
      let more : many * 200000 ≤ 256 * 200000 = omega (arith, few) in
      omega (arith, most, wide, more)

  all_few : (id : ℕ) (lives : List Life) (all : AllByRecursion (IsBound items source) lives) → items < 256 → length source ≤ 200000
      → AllByRecursion (λ (v : Volume). length (v.book id) < 2 ^ 32 - 1) (volumes_of lives all)
  all_few id [] all less short = tt
  all_few id (life ∷ lives) all less short =
      (few_of (length (all.0.book id)) items (length source) less (all.0.whole id).few short, all_few id lives all.1 less short)

  pub all_sound : (lives : List Life) (all : AllByRecursion (IsBound items source) lives) → items < 256 → length source ≤ 200000
      → IsSound source items (book_in (volumes_of lives all))
  all_sound lives all less short = record {
    linked = λ id item least most.
        found_has (λ (book : List (List MonitoredItemNotification)). AreLinkedValues source item (values_of item (joined book))) id (volumes_of lives all) tt (all_linked id item lives all);
    few = λ id.
        found_has (λ (book : List (List MonitoredItemNotification)). length book < 2 ^ 32 - 1) id (volumes_of lives all) (omega arith) (all_few id lives all less short);
  }
