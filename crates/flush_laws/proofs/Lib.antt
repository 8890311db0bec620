pub mod Carried
pub mod Clean
pub mod FewRows
pub mod FileBlocks
pub mod Journal
pub mod Later
pub mod Numbers
pub mod Written
