pub mod CacheLemmas
pub mod FinishLemmas
pub mod PageLemmas
pub mod PartLemmas
pub mod RowLemmas
pub mod SplitLemmas
pub mod StoreLemmas
pub mod TakenLemmas
pub mod WalkLemmas
mod Vectors
