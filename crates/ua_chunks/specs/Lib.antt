pub mod Frames
pub mod Framing
pub mod Streams
pub mod Assembly
pub mod Bodies
pub mod Sending
pub mod Arrival
pub mod Traffic
