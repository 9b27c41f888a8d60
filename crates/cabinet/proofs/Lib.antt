pub mod Written
pub mod Slipped
pub mod Spendable
pub mod Served
pub mod Ran
pub mod Roomy
pub mod Searched
