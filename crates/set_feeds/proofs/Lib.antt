pub mod Known
pub mod Walking
pub mod Feeding
pub mod Sourcing
