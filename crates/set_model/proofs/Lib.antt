pub mod SourceLemmas
pub mod StampLemmas
pub mod Text
