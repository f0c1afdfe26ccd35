pub mod Cells
pub mod Lightest
pub mod Places
pub mod Scales
