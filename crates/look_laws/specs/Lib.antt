pub mod Beside
pub mod Fit
pub mod Laws
pub mod Look
pub mod Made
