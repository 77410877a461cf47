pub mod Fitting
pub mod Form
pub mod Structures
pub mod Body
pub mod Header
