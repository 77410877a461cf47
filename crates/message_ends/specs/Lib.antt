pub mod Ends
pub mod Talk
pub mod Showing
