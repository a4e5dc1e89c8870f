pub mod FinishLemmas
pub mod IndexLemmas
pub mod PageLemmas
pub mod ReadLemmas
pub mod RegisterLemmas
pub mod RunLemmas
pub mod SealLemmas
pub mod TakeLemmas
pub mod TurnLemmas
mod Vectors
pub mod WentLemmas
