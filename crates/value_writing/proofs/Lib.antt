pub mod WritingAddresses
pub mod WritingBare
pub mod WritingCells
pub mod WritingDotted
pub mod WritingFronts
pub mod WritingGap
pub mod WritingGroups
pub mod WritingNumbers
pub mod WritingOctets
pub mod WritingPorts
pub mod WritingSubnets
pub mod WritingTexts
mod Vectors
