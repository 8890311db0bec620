pub mod Run
pub mod Made
pub mod Labels
pub mod Agreed
pub mod Mounted
