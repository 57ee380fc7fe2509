pub mod Turned
pub mod Running
pub mod Viewed
pub mod Starting
pub mod Acts
