pub mod Noting
pub mod Lives
pub mod Fronts
pub mod Numbers
pub mod Below
