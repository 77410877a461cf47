pub mod Line
pub mod Report
pub mod Source
pub mod Stamp
