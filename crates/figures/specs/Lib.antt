pub mod Claims
pub mod Model
pub mod Plan
pub mod Rules
