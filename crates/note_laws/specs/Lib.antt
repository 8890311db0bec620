pub mod Run
pub mod Notes
pub mod Merged
pub mod Joined
pub mod There
pub mod Worked
