pub mod Histories
pub mod Seats
pub mod Standings
pub mod Steps
pub mod Turns
