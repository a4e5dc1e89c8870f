mod ClaimLemmas
mod PageLemmas
mod PlayLemmas
mod QueryLemmas
mod StayLemmas
mod Vectors
