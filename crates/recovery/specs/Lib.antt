pub mod Cause
pub mod Freed
pub mod Judging
pub mod Mkfs
pub mod Open
pub mod Recovered
pub mod Recovering
pub mod Settling
