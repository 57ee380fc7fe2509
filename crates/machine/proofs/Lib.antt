pub mod Going
pub mod Calling
pub mod Fitting
pub mod Running
pub mod Determining
pub mod Keeping
pub mod Turning
pub mod Using
