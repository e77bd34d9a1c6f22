pub mod Tallies
pub mod Decides
pub mod Empties
