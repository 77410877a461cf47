pub mod Ids
pub mod Lines
pub mod Passing
pub mod Placing
