pub mod ByteLemmas
pub mod HeadingLemmas
pub mod KindLemmas
pub mod NetLemmas
pub mod RangeLemmas
pub mod RowLemmas
mod Vectors
