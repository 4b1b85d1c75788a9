-- The tests of the first step, and what it leaves of each kind of form.
pub mod Tested
pub mod Marking
pub mod Grown
pub mod Labelled
pub mod Answered
pub mod Determined
