pub mod Carried
pub mod Change
