pub mod GoingLemmas
pub mod ReportLemmas
mod Vectors
