pub mod Calling
pub mod Passing
pub mod Hearing
pub mod Counting
pub mod Asking
