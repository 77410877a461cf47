pub mod Read
pub mod Filters
