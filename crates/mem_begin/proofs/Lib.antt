pub mod Rows
pub mod Cells
pub mod Cores
pub mod Standing
