pub mod Classes
pub mod Found
pub mod Leads
pub mod Partitions
pub mod Refines
