pub mod Counts
pub mod Noted
pub mod Looked
pub mod Copies
pub mod Going
pub mod HeldAlone
