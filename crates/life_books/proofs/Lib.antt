pub mod Saying
pub mod Owning
pub mod Living
pub mod Bringing
