pub mod Labels
pub mod Goals
pub mod Invariants
pub mod Frontiers
pub mod Orders
pub mod Works
pub mod Answers
