pub mod Laws
pub mod Log
pub mod Named
pub mod Part
