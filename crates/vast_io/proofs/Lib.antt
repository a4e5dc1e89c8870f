pub mod Reading
mod Vectors
pub mod Writing
