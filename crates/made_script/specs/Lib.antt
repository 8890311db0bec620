pub mod Laws
pub mod Letters
pub mod Made
