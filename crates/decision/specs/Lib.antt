pub mod Limits
pub mod Refusal
pub mod Meaning
pub mod Ballots
pub mod Laws
