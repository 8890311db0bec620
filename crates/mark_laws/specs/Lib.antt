pub mod Changed
pub mod FileAt
pub mod Laws
pub mod Touched
