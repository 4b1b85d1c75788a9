-- Laws for the loops over all sites: first the loop itself, then what a turn of each function reads and writes.
pub mod Passed
pub mod Back
pub mod Tallied
pub mod Tested
pub mod Entries
pub mod Row
pub mod Xor
