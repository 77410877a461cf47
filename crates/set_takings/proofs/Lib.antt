pub mod Places
pub mod Sending
pub mod Repeating
pub mod Booking
