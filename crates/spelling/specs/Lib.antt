-- The rows of numbers, what the functions that write them ask and promise, and their laws.
pub mod Rows
pub mod Spell
pub mod Laws
pub mod Determined
