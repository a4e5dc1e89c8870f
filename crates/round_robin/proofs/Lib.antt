pub mod DealLemmas
mod Vectors
