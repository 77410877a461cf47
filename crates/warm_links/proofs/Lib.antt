pub mod Calm
pub mod Parts
pub mod Former
pub mod Held
pub mod Placing
pub mod Lasting
