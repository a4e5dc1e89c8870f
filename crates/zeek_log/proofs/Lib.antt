pub mod CutLemmas
pub mod FindLemmas
pub mod GoingLemmas
pub mod HeadLemmas
pub mod LawLemmas
pub mod LineLemmas
pub mod LookLemmas
pub mod NearLemmas
pub mod PieceLemmas
pub mod PlainLemmas
pub mod RowLawLemmas
pub mod StandingLemmas
pub mod StretchLemmas
mod Vectors
pub mod WrittenLemmas
