pub mod Bytes
pub mod Faults
pub mod Laws
pub mod Passing
pub mod Reading
pub mod Shapes
pub mod Timing
pub mod Turns
