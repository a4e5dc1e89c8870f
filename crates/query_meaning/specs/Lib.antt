pub mod Agreement
pub mod Laws
pub mod Meaning
pub mod Picks
pub mod Relations
pub mod Resolving
pub mod Sure
pub mod SureCells
