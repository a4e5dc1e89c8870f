pub mod Given
pub mod Replies
pub mod Searches
pub mod Shown
pub mod Snapshots
pub mod Stores
pub mod Telling
pub mod Waiting
