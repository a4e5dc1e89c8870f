mod BehindLemmas
mod ChainLemmas
mod Vectors
