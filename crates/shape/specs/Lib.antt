pub mod Names
pub mod Entries
pub mod Faults
pub mod Answer
pub mod Walk
pub mod Reading
