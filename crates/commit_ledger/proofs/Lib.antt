pub mod EndsAlong
pub mod EntersAlong
pub mod First
pub mod Kept
pub mod OwesAlong
pub mod Places
pub mod SeenLasts
