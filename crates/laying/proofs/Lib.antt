pub mod Laying
pub mod Short
