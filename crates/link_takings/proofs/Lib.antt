pub mod Deeds
pub mod Replying
pub mod Steps
pub mod Late
pub mod Answering
pub mod Exchanging
pub mod Nameless
pub mod Named
