pub mod Groups
pub mod Octets
pub mod Own
pub mod Places
pub mod Readable
pub mod Seconds
