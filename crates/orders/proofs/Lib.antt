pub mod Settled
pub mod Mapped
