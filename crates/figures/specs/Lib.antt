pub mod Sample
pub mod Figures
