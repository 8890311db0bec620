pub mod Laws
pub mod Listed
pub mod SoFar
pub mod Survives
pub mod Wrote
