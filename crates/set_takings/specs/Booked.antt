-- A life whose messages are those of a book.
use Rattle.std.specs.Prelude.{◌≡◌, ◌++◌, ℕ, List}
use Rattle.std.specs.List.{AllByRecursion}
use Rattle.ua_sub_msgs.specs.declared.notification.MonitoredItemNotification.{MonitoredItemNotification}
use Rattle.ua_sub_msgs.specs.declared.notification.NotificationMessage.{NotificationMessage}
use Rattle.server_rules.specs.Step as server
use Rattle.server_rules.specs.Acts.{state_after}
use Rattle.server_laws.specs.Beginning.{KeptUnder}
use Rattle.server_laws.specs.Course.{life_of}
use Rattle.server_keeps.specs.Fitting.{FitsChange, FitsConfig, FitsHappening}
use Rattle.server_answers.specs.Turns.{AreHeard}
use Rattle.server_tellings.specs.Heard.{WasSent}
use Rattle.link_takings.specs.From.{HasData}
use Rattle.link_following.specs.Book.{Book, InBook}
use Rattle.set_talks.specs.Meetings.{Life, start_of}

-- a life begins with what fits the wire, all that happens to it does, and what it hears it awaits; and whatever data it sent,
-- and kept at any time, are in the book
pub record IsBooked (book : Book) (life : Life) : Type 0 where
  pub config : FitsConfig life.config
  pub current : AllByRecursion FitsChange life.current
  pub happenings : AllByRecursion FitsHappening life.happenings
  pub heard : AreHeard life.happenings (start_of life)
  pub sent : (id number : ℕ) (values : List MonitoredItemNotification)
      → WasSent id number values (life_of life.happenings (start_of life)) → InBook book id number values
  pub kept : (later earlier : List server.Happening) (id asked number : ℕ) (message : NotificationMessage)
      (values : List MonitoredItemNotification) → life.happenings ≡ later ++ earlier
      → KeptUnder id asked message (state_after earlier (start_of life)) → HasData number values message
      → InBook book id number values
