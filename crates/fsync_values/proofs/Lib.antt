pub mod Lent
pub mod Renewed
