pub mod Searched
pub mod Places
