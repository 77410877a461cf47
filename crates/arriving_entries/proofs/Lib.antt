pub mod Arriving
pub mod Linking
pub mod Bringing
pub mod Lengths
pub mod Saying
