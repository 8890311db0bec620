pub mod Kept
pub mod Tells
