mod Moments
mod Short
mod Cells
mod Sums
mod Whole
mod Ends
mod Rested
