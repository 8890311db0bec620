pub mod Gathered
pub mod Keeping
pub mod Ordered
pub mod Reserving
