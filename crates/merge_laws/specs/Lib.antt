pub mod Phases
pub mod Pens
pub mod Plays
pub mod Tell
pub mod Laws
pub mod LeftByTurns
pub mod Worked
