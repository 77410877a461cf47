pub mod Lists
mod Numbers
pub mod Values
pub mod Lengths
mod Sessions
mod Messages
mod Subs
mod Apart
mod Replies
mod Describing
mod Answering
mod Asked
mod Moving
mod Publishing
mod Serving
mod Reading
mod Visiting
mod Asking
mod Ticking
mod Connecting
mod Living
mod Again
pub mod Watching
mod WatchingServices
pub mod WatchingEvents
mod Short
mod Lawful
mod Taking
