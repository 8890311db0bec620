pub mod Changed
pub mod Kept
pub mod KeptLaws
pub mod Remap
pub mod RemapLaws
