pub mod Change
pub mod Groups
pub mod Laws
pub mod Pool
pub mod Space
