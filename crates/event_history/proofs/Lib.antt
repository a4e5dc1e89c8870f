pub mod AnswerLemmas
pub mod CoverLemmas
pub mod GrowthLemmas
mod OnceLemmas
pub mod SnapshotLemmas
pub mod TellingLemmas
mod Vectors
