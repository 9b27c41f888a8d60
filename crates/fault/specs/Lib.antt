pub mod Reports
pub mod Texts
pub mod Judging
