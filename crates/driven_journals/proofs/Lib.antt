pub mod Driving
pub mod Cores
