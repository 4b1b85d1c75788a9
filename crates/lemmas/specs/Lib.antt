-- What knows nothing of the paper: truth values and tests, numbers and lists, sums, and signed numbers as the machine holds them.
pub mod Bools
pub mod Tells
pub mod Counts
pub mod Places
pub mod Cells
pub mod Stores
pub mod Ints
pub mod Sums
pub mod Held
pub mod Signs
pub mod Adding
pub mod Determined
