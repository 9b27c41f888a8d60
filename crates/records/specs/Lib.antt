pub mod Chains
pub mod Sound
pub mod Changes
pub mod Held
pub mod Standing
