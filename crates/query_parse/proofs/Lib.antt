pub mod Ends
pub mod Halves
pub mod Judging
pub mod LiteralWords
pub mod OneFault
pub mod ParsingLemmas
pub mod Passing
pub mod PieceLemmas
pub mod QuotedTexts
pub mod Shapes
pub mod Standing
pub mod Stepping
pub mod TokenLemmas
pub mod TokenTexts
mod Vectors
pub mod WordLemmas
