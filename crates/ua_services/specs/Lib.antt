pub mod Families
pub mod Requests
pub mod Replies
