pub mod Keeping
pub mod Deafening
pub mod Taking
pub mod Nothing
