-- The tests of the whole sweep, those of its tasks, both put together, and that the verdict is the only one.
pub mod Lengths
pub mod First
pub mod Tasks
pub mod Whole
pub mod Determined
