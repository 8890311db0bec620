mod Logs
mod Homewards
mod Trims
mod Ended
mod AllTrimmed
mod Finishes
