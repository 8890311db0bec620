pub mod Made
pub mod Agreement
pub mod Laws
pub mod Closing
