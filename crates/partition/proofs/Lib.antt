pub mod AskLemmas
pub mod BuildLemmas
pub mod HeadingLemmas
pub mod ListLemmas
pub mod MergeLemmas
pub mod PickLemmas
pub mod SpanLemmas
