-- Names of the crates below, passed on, so that the crates above name this one alone.
pub use Rattle.set_histories.specs.Histories.{AreHistories, lives_after, recorded_after}
pub use Rattle.set_levels.specs.Had.{HadLevel}
pub use Rattle.set_meetings.specs.Noted.{lives_noted}
pub use Rattle.set_talks.specs.Meetings.{Life}
