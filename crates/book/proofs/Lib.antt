pub mod Opened
pub mod Sounds
pub mod Offered
pub mod Ordered
pub mod Slipped
pub mod Making
pub mod Numbered
