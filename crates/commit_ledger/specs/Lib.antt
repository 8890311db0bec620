pub mod Calls
pub mod Keeps
pub mod Laws
pub mod View
