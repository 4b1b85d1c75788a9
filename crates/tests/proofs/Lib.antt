-- The laws behind tests 1 and 2, 9 and 10, in the tests' order.
pub mod Shape
pub mod Chosen
pub mod Seed
