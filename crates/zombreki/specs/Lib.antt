pub mod Exported
pub mod Fitted
