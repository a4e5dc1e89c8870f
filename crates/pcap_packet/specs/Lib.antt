pub mod Numbers
pub mod Parts
pub mod Headers
pub mod Packets
pub mod Chains
