mod AtFirst
pub mod Checking
mod Complete
mod Crowding
pub mod Ending
pub mod Images
pub mod Made
pub mod Ran
mod Reading
pub mod Serving
mod Telling
pub mod Told
mod Unread
pub mod Within
