pub mod Labelled
pub mod Told
pub mod Written
