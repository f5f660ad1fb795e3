pub mod History
pub mod Leading
pub mod Parts
pub mod Refining
