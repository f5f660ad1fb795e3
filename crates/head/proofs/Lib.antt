pub mod Crosses
pub mod Listings
pub mod Pins
pub mod Plants
pub mod Standing
pub mod Vectors
