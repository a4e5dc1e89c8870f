pub mod Addresses
pub mod Answers
pub mod Escapes
pub mod Numbers
pub mod Places
pub mod Ports
pub mod Reading
