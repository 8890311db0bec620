pub mod Journal
pub mod Laws
pub mod Planned
pub mod Ready
pub mod Volume
