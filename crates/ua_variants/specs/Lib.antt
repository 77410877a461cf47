pub mod Limits
pub mod Kinds
pub mod Grammar
pub mod Reader
pub mod Spelling
pub mod Keeps
