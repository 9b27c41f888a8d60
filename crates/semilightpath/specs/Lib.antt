pub mod Scenes
pub mod Paths
pub mod Costs
pub mod Cheapest
pub mod Carried
