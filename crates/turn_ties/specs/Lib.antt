pub mod Laws
pub mod Led
pub mod Plans
