pub mod Weeks
pub mod Outcomes
