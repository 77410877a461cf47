pub mod Class
pub mod Current
pub mod Node
pub mod Texts
pub mod Values
pub mod Read
