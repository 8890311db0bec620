pub mod Decided
pub mod Entered
mod Plain
mod Walked
