pub mod Replies
pub mod Holding
pub mod Serving
pub mod Runs
pub mod Feeding
pub mod Inputs
