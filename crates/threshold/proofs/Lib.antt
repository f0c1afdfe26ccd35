pub mod Ending
pub mod Hunting
pub mod Laying
pub mod Pushing
