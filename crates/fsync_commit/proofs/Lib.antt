pub mod OnDisk
pub mod Resting
pub mod Built
pub mod Taken
pub mod Low
pub mod Came
pub mod OnPlans
