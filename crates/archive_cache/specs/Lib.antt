pub mod Caches
pub mod Contents
pub mod Laws
