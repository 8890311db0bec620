pub mod Filled
pub mod Fresh
pub mod Inside
pub mod Padded
pub mod Passed
pub mod Places
pub mod Puts
pub mod Sizes
