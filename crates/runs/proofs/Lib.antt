pub mod Following
pub mod Between
pub mod Beginning
pub mod Conducted
