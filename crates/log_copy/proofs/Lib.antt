mod Among
mod Counted
mod Added
mod Growing
