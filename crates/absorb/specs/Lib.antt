pub mod Last
pub mod Laws
pub mod Net
