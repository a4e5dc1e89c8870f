mod FlowLemmas
mod PlaceLemmas
mod KeyLemmas
mod GroupLemmas
mod LayoutLemmas
pub mod RowLemmas
mod Vectors
