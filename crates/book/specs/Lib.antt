pub mod State
pub mod Changes
pub mod Refusing
pub mod Taking
pub mod Answering
pub mod Numbered
pub mod Calls
pub mod Opening
