pub mod Laws
pub mod Legal
pub mod Lines
pub mod Reading
pub mod Steps
pub mod Told
pub mod Values
