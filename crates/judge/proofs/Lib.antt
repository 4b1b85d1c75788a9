-- The number of a bond.
pub mod Number
