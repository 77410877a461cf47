pub mod Lists
pub mod Linking
pub mod Quieting
pub mod Services
pub mod Reading
