pub mod Circuits
pub mod Worked
