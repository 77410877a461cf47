pub mod Known
pub mod Newest
pub mod Sent
