pub mod Fronts
pub mod Lent
pub mod Telling
