pub mod Bitwise
pub mod Refusal
pub mod Keys
pub mod Numbers
pub mod Contents
pub mod Blocks
pub mod Packed
