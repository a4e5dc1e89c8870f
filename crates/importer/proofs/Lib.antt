pub mod BeginLemmas
pub mod CaptureLemmas
pub mod CarryLemmas
pub mod CurrentLemmas
pub mod CutLemmas
pub mod FlowLemmas
pub mod FormLemmas
pub mod GoingLemmas
pub mod HeadedLemmas
pub mod TurnLemmas
pub mod LawLemmas
mod Vectors
