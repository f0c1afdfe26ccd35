pub mod Coming
pub mod Laying
