pub mod Given
pub mod Sites
