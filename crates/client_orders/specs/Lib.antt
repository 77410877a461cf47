pub mod Lawful
pub mod Coming
pub mod Holding
