pub mod Claims
pub mod Judge
pub mod Timed
