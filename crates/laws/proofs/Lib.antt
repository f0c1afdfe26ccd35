pub mod Products
pub mod Stated
pub mod Laws
