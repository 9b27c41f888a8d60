pub mod Hands
pub mod Old
