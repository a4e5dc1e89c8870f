pub mod FormLemmas
pub mod OneForm
mod Vectors
