pub mod Cutting
pub mod Reading
