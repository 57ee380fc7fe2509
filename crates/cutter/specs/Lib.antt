pub mod Operations
pub mod Actions
pub mod Cutting
pub mod Table
pub mod CutterLaws
