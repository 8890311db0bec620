pub mod Table
pub mod Making
pub mod Box
pub mod Mount
pub mod Laws
