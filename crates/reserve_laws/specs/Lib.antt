pub mod Plans
pub mod Looks
pub mod OwnFile
pub mod Fits
pub mod Olds
