pub mod Causes
pub mod Going
pub mod Numbers
pub mod Reports
pub mod Texts
pub mod Writing
