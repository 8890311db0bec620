pub mod Fitting
pub mod Knowing
pub mod Making
