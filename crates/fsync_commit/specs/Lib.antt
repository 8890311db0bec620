pub mod Asked
pub mod Coming
pub mod Granting
pub mod Laws
