pub mod AcceptLemmas
mod AdjacentLemmas
pub mod CarryLemmas
pub mod ClaimLemmas
pub mod GivenLemmas
mod GroupLemmas
pub mod LegalLemmas
pub mod MakeLemmas
pub mod QueryLemmas
mod RangeLemmas
mod TakeLemmas
pub mod Vectors
mod WaitingLemmas
