pub mod Lookups
pub mod Ordering
pub mod Hearing
pub mod Coming
