pub mod Cells
mod Held
pub mod Copied
