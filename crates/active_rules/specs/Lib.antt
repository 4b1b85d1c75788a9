-- The mode of each rule, and that it has one.
pub mod Rule
pub mod Determined
