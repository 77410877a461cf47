pub mod Joints
pub mod Lists
pub mod Lives
mod Others
pub mod SwitchLines
