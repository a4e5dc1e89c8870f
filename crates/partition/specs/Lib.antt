pub mod Asking
pub mod Building
pub mod Columns
pub mod Indexes
pub mod Merged
pub mod Parts
