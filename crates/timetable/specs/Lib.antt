pub mod Claims
pub mod Loops
pub mod Machine
pub mod Stages
pub mod Timetable
