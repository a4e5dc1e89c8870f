pub mod Desks
pub mod Kept
pub mod Refusals
pub mod Texts
