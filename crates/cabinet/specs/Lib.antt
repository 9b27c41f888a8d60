pub mod Requests
pub mod Replies
pub mod Switches
pub mod Serving
pub mod Answers
