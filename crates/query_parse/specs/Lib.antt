pub mod Faults
pub mod Grammar
pub mod Laws
pub mod Lexemes
pub mod Parsing
pub mod Tokens
