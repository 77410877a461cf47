pub mod Values
pub mod Telling
pub mod Booking
pub mod Awaiting
