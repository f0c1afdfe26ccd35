pub mod Fill
pub mod Claims
