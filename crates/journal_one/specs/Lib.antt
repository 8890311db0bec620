pub mod Calls
pub mod Job
pub mod Known
pub mod Laws
pub mod Outcome
pub mod Packed
pub mod Stage
pub mod Work
