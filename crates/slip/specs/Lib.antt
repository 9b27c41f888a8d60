pub mod Slips
pub mod Texts
