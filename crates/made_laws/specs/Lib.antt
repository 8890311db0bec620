pub mod Made
pub mod Tells
pub mod Own
