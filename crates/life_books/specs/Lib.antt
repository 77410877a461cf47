pub mod Books
pub mod Lives
