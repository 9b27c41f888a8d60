pub mod Pricing
