pub mod Beginning
pub mod Lying
