pub mod Changes
pub mod First
pub mod Free
pub mod Order
pub mod Others
pub mod Rows
