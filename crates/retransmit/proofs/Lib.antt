pub mod Turns
pub mod Newest
pub mod Available
