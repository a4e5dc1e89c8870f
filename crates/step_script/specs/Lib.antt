pub mod Feeds
pub mod Finishing
pub mod Playing
pub mod Reading
pub mod Runs
pub mod Scripts
pub mod Told
pub mod Wholes
