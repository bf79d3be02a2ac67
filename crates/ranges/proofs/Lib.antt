mod Bits
mod Counts
mod Points
mod Starts
