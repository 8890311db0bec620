pub mod Changing
pub mod ChangingLaws
