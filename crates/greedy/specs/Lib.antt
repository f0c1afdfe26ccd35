pub mod Assignment
pub mod Docks
pub mod Greedy
