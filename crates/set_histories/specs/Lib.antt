pub mod Recording
pub mod Histories
pub mod Below
