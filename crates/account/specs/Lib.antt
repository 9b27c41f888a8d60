pub mod Events
pub mod Accounts
pub mod Due
pub mod Law
pub mod Going
