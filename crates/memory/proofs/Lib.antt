pub mod Tables
pub mod ChipWrites
pub mod ChipSlots
pub mod ChipKeeps
pub mod KeepAnswers
