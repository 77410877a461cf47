-- Data of a Publish response were sent by a life.
use Rattle.std.proofs.Common.{ℕ, List, subst}
use Rattle.std.specs.List.{AllByRecursion}
use Rattle.set_model.specs.declared.source.Change.{Change}
use Rattle.ua_chunks.specs.Assembly.{Tokens}
use Rattle.ua_channel.specs.declared.ear.Ear.{Ear}
use Rattle.ua_channel.specs.declared.heard.Heard.{Heard}
use Rattle.ua_channel.specs.Messages.{hearing_of}
use Rattle.ua_channel.specs.Sharing.{own}
use Rattle.ua_channel.specs.State.{WireState}
use Rattle.ua_sub_msgs.specs.declared.notification.MonitoredItemNotification.{MonitoredItemNotification}
use Rattle.server_rules.specs.declared.config.ServerConfig.{ServerConfig}
use Rattle.server_rules.specs.State.{new_server}
use Rattle.server_rules.specs.Said.{orders_of}
use Rattle.server_rules.specs.Step.{Happening}
use Rattle.server_laws.specs.Course.{life_of, said_after}
use Rattle.server_keeps.specs.Fitting.{FitsChange, FitsConfig, FitsHappening}
use Rattle.server_tellings.specs.Heard.{IsPutOn, WasSent}
use Rattle.link_rules.specs.Step as alone
use Rattle.link_takings.specs.From.{IsPublished}
use Rattle.link_following.specs.Book.{Book, InBook}
use Rattle.set_talks.specs.Lives.{put_on}
use Rattle.set_talks.specs.Meetings.{Life, start_of}
use Rattle.set_takings.specs.Booked.{IsBooked}
use Rattle.set_takings.proofs.Places.{IsHeardAt, put_at}

-- what another crate says
abbrev pub PublishedWereSent : Type 0
PublishedWereSent = (config : ServerConfig) (current : List Change) (happenings : List Happening) (conn : ℕ) (wire : WireState) (e : Ear) (tokens : Tokens)
    (id number : ℕ) (values : List MonitoredItemNotification) → FitsConfig config → AllByRecursion FitsChange current
    → AllByRecursion FitsHappening happenings → IsPutOn conn wire (life_of happenings (new_server config current)).said
    → IsPublished id number values (alone.Hears (hearing_of e wire tokens).heard) → WasSent id number values (life_of happenings (new_server config current))

pub published_in_book : PublishedWereSent → (book : Book) (life : Life) (conn place : ℕ) (h : Heard) (id number : ℕ) (values : List MonitoredItemNotification)
    → IsBooked book life → IsHeardAt h place (put_on conn life.happenings (start_of life)) → IsPublished id number values (alone.Hears h)
    → InBook book id number values
published_in_book sent book life conn place h id number values booked at comes =
    booked.sent id number values
    (sent life.config life.current life.happenings conn at.wire at.of.0 at.of.1 id number values booked.config booked.current booked.happenings
    (put_at (own conn (orders_of (said_after life.happenings (start_of life)))) place at.wire at.at)
    (subst (λ (x : Heard). IsPublished id number values (alone.Hears x)) at.of.2 comes))
