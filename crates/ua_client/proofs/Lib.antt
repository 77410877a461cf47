pub mod Counting
pub mod Looping
pub mod Keeping
pub mod Hushing
pub mod Deafening
pub mod Staying
pub mod Strangers
pub mod Taking
