pub mod Gates
pub mod Images
pub mod Loops
pub mod Moments
pub mod Parts
pub mod Whole
