pub mod Heard
pub mod On
pub mod Lives
pub mod Meetings
