pub mod Changes
pub mod Counts
pub mod GivenUp
pub mod KeptPointers
pub mod Left
pub mod Places
pub mod Tables
