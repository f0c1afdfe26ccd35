pub mod Docks
pub mod Threshold
pub mod Words
