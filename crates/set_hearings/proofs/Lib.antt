pub mod Attending
pub mod Awaiting
pub mod Dialling
