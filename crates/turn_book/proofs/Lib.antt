mod Booking
mod Keeps
mod Lines
mod Lists
mod Names
pub mod Owned
mod Splitting
mod Turning
