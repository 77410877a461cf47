pub mod Feeds
pub mod Known
