pub mod Image
pub mod Fsyncs
pub mod Map
pub mod Laws
pub mod Told
