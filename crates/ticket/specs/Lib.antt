pub mod Lines
pub mod Tickets
