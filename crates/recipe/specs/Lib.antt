pub mod Admitted
pub mod Admission
pub mod Readers
