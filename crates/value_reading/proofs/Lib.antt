pub mod AddressLemmas
pub mod AnswerLemmas
pub mod CutLemmas
pub mod ElementLemmas
pub mod EscapeLemmas
pub mod GapLemmas
pub mod GroupLemmas
pub mod KindLemmas
pub mod NumberLemmas
pub mod OctetLemmas
pub mod PlainLemmas
mod Vectors
