pub mod Fields
pub mod Labels
pub mod Texts
