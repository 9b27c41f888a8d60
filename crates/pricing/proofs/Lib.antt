pub mod Restored
pub mod Left
