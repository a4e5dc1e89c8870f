pub mod Columns
pub mod Asked
pub mod Kept
pub mod Stands
