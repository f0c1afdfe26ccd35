pub mod Copying
pub mod Single
pub mod Starred
