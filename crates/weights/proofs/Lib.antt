pub mod Beginning
pub mod Cells
pub mod Copies
pub mod Fitting
pub mod Lengthening
pub mod Looking
pub mod Sweeping
