pub mod Keys
pub mod Sightings
pub mod Groups
pub mod Steps
pub mod Tracked
pub mod Laws
pub mod Rows
