pub mod Nodes
pub mod World
pub mod Fitting
pub mod Showing
