mod Vectors
pub mod WordLemmas
pub mod PieceLemmas
pub mod ShownLemmas
pub mod NextLemmas
pub mod LaneLemmas
