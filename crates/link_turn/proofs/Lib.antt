pub mod Doing
pub mod Greeting
