pub mod Crosses
mod ExprCrosses
mod TurnLemmas
