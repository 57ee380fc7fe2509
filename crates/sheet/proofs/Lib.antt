pub mod Steps
pub mod Text
pub mod Sizes
pub mod Numbering
pub mod Meaning
pub mod Lines
