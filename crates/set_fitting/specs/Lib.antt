pub mod Fits
pub mod Counted
