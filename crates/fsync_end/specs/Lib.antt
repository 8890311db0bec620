pub mod Trimming
pub mod Finishing
