pub mod Calls
pub mod Hearing
pub mod History
pub mod Shown
pub mod State
pub mod Walk
