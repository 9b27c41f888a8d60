pub mod Lines
pub mod Costed
pub mod Called
pub mod Slipped
pub mod Served
pub mod Runs
pub mod Going
pub mod Answered
