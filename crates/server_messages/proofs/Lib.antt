pub mod Rules
pub mod Ends
pub mod Events
pub mod Holding
pub mod Taking
pub mod Coming
pub mod Deafness
pub mod Awaiting
