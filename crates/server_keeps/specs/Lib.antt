pub mod Fitting
pub mod Again
pub mod Lawful
