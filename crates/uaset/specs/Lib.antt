pub mod Answer
pub mod Client
pub mod Commands
pub mod Edges
pub mod Run
pub mod Status
pub mod Words
pub mod Spelling
