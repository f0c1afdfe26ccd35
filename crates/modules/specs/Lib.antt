pub mod Claims
pub mod Model
pub mod Reach
pub mod Rules
