pub mod Upside
