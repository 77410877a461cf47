pub mod Framed
pub mod Spelled
