pub mod Laws
pub mod Thresholds
