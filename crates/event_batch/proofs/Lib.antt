pub mod BatchLemmas
pub mod ContentLemmas
pub mod FieldLemmas
pub mod HalfLemmas
pub mod LoopLemmas
pub mod PackingLemmas
pub mod PlaceLemmas
pub mod ReadingLemmas
pub mod SizeLemmas
pub mod SpelledLemmas
mod Vectors
