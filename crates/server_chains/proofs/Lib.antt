pub mod Finding
pub mod Growing
pub mod Making
pub mod Keeping
pub mod Linking
mod Telling
mod Lasting
