pub mod CauseLemmas
pub mod StepsLemmas
mod Vectors
