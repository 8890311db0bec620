pub mod There
pub mod Later
pub mod Known
pub mod Told
pub mod Owns
