pub mod AskedLemmas
pub mod BucketLemmas
pub mod ColumnLemmas
pub mod CoverLemmas
pub mod KeysLemmas
pub mod KindLemmas
pub mod NumberLemmas
pub mod PairLemmas
pub mod PortLemmas
pub mod PresenceLemmas
pub mod TextLemmas
mod Vectors
