pub mod Dock
pub mod Cases
