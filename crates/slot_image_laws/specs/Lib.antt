pub mod Commits
pub mod Images
pub mod Run
pub mod Laws
pub mod Labels
pub mod Held
