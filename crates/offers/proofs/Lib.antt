pub mod Offering
pub mod Rows
