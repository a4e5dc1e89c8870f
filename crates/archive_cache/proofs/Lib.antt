pub mod EntryLemmas
pub mod AskLemmas
mod Vectors
pub mod LatestLemmas
