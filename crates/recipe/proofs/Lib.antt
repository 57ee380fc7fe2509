pub mod Admitted
pub mod Fitting
pub mod Admission
