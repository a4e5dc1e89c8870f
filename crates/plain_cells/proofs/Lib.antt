pub mod BoolLemmas
pub mod DigitLemmas
pub mod FrontLemmas
pub mod GapLemmas
pub mod LaneLemmas
pub mod NumberLemmas
pub mod OctetLemmas
pub mod OwnAddressLemmas
pub mod OwnLemmas
pub mod OwnTextLemmas
pub mod PartLemmas
pub mod PlaceLemmas
pub mod ReadableLemmas
pub mod SecondLemmas
mod Vectors
