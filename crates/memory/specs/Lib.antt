pub mod Limits
pub mod Refusal
pub mod Meaning
pub mod Table
pub mod Chip
pub mod ChipBounds
pub mod Keep
