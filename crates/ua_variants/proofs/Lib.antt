pub mod Products
pub mod Depth
pub mod Heads
pub mod Codecs
pub mod Layers
pub mod Appends
pub mod Spelled
