pub mod Costs
pub mod Filled
pub mod Format
pub mod Refusals
pub mod Runs
