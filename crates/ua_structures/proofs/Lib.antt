pub mod Bodies
pub mod BodyLaws
pub mod Headers
pub mod Forms
