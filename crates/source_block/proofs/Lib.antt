pub mod BufferLemmas
pub mod TakeLemmas
mod Vectors
