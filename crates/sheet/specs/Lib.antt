pub mod Text
pub mod Scan
pub mod Rows
pub mod Dirty
pub mod Faults
pub mod Lines
pub mod Answer
pub mod Walk
