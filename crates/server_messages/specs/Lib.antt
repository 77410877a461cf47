pub mod Messages
pub mod Fitting
pub mod Showing
