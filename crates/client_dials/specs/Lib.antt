pub mod Spoken
pub mod Behind
pub mod Making
