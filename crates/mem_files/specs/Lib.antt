pub mod File
pub mod Kept
pub mod Laws
pub mod Pages
pub mod TouchedFrom
