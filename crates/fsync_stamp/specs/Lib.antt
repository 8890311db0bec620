pub mod Adding
pub mod Copying
pub mod Stamping
