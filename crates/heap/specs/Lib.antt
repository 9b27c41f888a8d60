pub mod Orders
pub mod Heaps
