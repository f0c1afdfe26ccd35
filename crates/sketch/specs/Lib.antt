pub mod Slacks
