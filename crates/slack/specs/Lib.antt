pub mod Fill
pub mod Greatest
pub mod Problem
pub mod Slack
pub mod Split
pub mod Splits
