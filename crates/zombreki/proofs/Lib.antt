pub mod Fitting
pub mod Lawful
pub mod Numbers
pub mod Theorems
