pub mod Grammar
pub mod Read
pub mod Words
