pub mod Asking
pub mod Crossing
pub mod Meaning
pub mod Planted
pub mod Refusals
pub mod Sheets
pub mod Stands
