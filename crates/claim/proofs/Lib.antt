pub mod Columned
pub mod Ranging
pub mod Subtyping
mod Rowed
mod Forms
pub mod Parts
pub mod Tested
mod Laid
pub mod Calls
mod Extents
mod Scopes
pub mod Finding
mod Ruling
mod Walking
pub mod Meaning
pub mod Labelling
pub mod Recipes
pub mod Judged
