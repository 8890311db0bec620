pub mod Made
pub mod Written
pub mod Telling
pub mod Landed
pub mod Told
