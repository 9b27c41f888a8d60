pub mod Usable
pub mod Charged
