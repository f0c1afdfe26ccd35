pub mod Leaving
pub mod Words
