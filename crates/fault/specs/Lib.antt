pub mod Numbers
pub mod Upward
pub mod Search
pub mod Refusals
