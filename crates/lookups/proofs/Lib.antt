pub mod Inside
pub mod Laws
pub mod Looked
pub mod Places
