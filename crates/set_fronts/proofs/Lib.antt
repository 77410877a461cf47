pub mod Plain
pub mod Slots
pub mod Sets
pub mod Lines
pub mod Numbers
