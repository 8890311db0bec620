pub mod Counts
pub mod Left
pub mod Logs
pub mod Named
pub mod Order
