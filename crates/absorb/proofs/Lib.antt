pub mod LastChanges
pub mod LoggedChanges
pub mod OneNet
pub mod Rows
