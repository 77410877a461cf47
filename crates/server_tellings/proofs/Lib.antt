mod Within
pub mod Hearing
pub mod Sending
mod Carrying
mod Serving
mod Keeping
pub mod Repeating
