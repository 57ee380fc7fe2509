pub mod Terms
pub mod Forests
pub mod Prefixes
pub mod Unique
pub mod Rules
pub mod Meaning
pub mod Columns
pub mod Tidying
