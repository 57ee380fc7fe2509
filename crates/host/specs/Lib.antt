pub mod Meaning
pub mod Rationing
