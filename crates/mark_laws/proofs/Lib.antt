pub mod Edits
pub mod Blocks
pub mod Made
pub mod Short
pub mod Kept
pub mod Images
