pub mod Tables
pub mod Sifts
pub mod Ends
pub mod Held
pub mod Few
