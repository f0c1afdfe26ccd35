pub mod First
pub mod Placing
pub mod Turns
