pub mod Added
pub mod Phases
pub mod Places
pub mod UnderWay
pub mod Once
