pub mod Fault
pub mod Split
pub mod Hex
pub mod Line
pub mod Grammar
pub mod Answer
pub mod Image
