pub mod Birthplaces
pub mod Named
pub mod Written
pub mod Files
