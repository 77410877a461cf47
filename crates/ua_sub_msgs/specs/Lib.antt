pub mod Structures
pub mod Numbers
pub mod Families
