pub mod RecordLemmas
pub mod HeadLemmas
mod Vectors
