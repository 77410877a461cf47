pub mod Counting
pub mod Standing
pub mod Making
pub mod Linking
