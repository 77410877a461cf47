pub mod Begun
pub mod Joints
