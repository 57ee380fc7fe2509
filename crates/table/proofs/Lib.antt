pub mod Masks
pub mod Nesting
pub mod Testing
pub mod Verdicts
