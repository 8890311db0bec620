mod Counted
mod InTurn
mod Named
pub mod Ready
