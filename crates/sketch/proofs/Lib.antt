pub mod Leaving
pub mod Within
