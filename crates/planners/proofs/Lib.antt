pub mod Lending
pub mod Optimal
pub mod Outcomes
pub mod Refusals
pub mod Serving
pub mod Theorems
pub mod Weighing
