pub mod Best
pub mod Claims
pub mod Reached
