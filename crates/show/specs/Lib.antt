pub mod Answer
pub mod Text
pub mod Value
pub mod Stream
