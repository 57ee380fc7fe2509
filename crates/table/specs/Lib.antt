pub mod Meant
pub mod Ranges
pub mod Heights
pub mod Tests
pub mod Answer
