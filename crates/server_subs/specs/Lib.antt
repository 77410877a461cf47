pub mod Apart
pub mod Access
pub mod Outgoing
pub mod Leaving
pub mod Answers
pub mod Continuing
pub mod Due
