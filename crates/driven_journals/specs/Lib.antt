pub mod Due
pub mod Jobs
pub mod Seats
