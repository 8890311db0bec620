pub mod Saw
pub mod Laws
