pub mod From
pub mod Exchange
pub mod Naming
