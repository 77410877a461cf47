pub mod Arrivals
pub mod Brought
